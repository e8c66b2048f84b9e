-- The place in the whole is that many more than the one behind the groups passed over.
use mathlib.Core.Path.{◌≡◌}
use Prim.Native.Nat.{ℕ, ◌+◌, ◌*◌, ◌/◌}
use lib.ListN.{length, drop}
use Rattle.versions.specs.Table.{place_of}
use Rattle.versions.proofs.table.passed_over.Given as goal

-- the entries of a group, as in the code
abbrev pub group : ℕ
group = 8

abbrev pub invariant-loop-i : goal.invariant-loop-i
invariant-loop-i l = (l.groups ≡ length l.list / group)
    × (place_of l.version l.list ≡ l.i * group + place_of l.version (drop (l.i * group) l.list))
