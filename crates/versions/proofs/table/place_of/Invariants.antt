-- `place_of`: the place in the whole is i more than that in the rest.
use Prim.Native.Nat.{◌+◌}
use mathlib.Core.Path.{◌≡◌}
use lib.ListN.{drop}
use Rattle.versions.specs.Table.{place_of}
use Rattle.versions.proofs.table.place_of.Given as goal

abbrev pub invariant-loop-i : goal.invariant-loop-i
invariant-loop-i l = place_of l.version l.list ≡ l.i + place_of l.version (drop l.i l.list)
