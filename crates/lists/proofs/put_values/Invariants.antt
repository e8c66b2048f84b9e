-- `put_values`: after i values the places begin with them, and go on as they were.
use mathlib.Core.List.{◌++◌}
use mathlib.Core.Path.{◌≡◌}
use lib.ListN.{length, take, drop}
use Rattle.lists.proofs.put_values.Given as goal

abbrev pub invariant-loop-i : goal.invariant-loop-i
invariant-loop-i g l = (length l.places ≡ length l.initial.places) × (l.places ≡ take l.i l.values ++ drop l.i l.initial.places)
