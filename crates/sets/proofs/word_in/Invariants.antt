-- The word so far is that of the entries from i on.
use mathlib.Core.Path.{◌≡◌}
use Prim.Native.Nat.{◌≤◌}
use lib.ListN.{length, drop}
use Rattle.sets.specs.Sets.{held_word}
use Rattle.sets.proofs.word_in.Given as goal

abbrev pub invariant-loop-i : goal.invariant-loop-i
invariant-loop-i g l = (l.i ≤ length l.table.versions.now) × (l.word ≡ held_word (drop l.i l.table.versions.now) (g.L.Versions.versions l.list))
