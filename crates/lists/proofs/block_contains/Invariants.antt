-- What was found so far, or the entries behind, answer for all from the place on.
use Prim.Native.Nat.{◌+◌}
use mathlib.Core.Bool.{◌||◌}
use mathlib.Core.Path.{◌≡◌}
use lib.ListN.{drop}
use Rattle.versions.specs.Table.{elem}
use Rattle.lists.specs.Wire.{entries}
use Rattle.lists.proofs.block_contains.Given as goal

abbrev pub invariant-loop-k : goal.invariant-loop-k
invariant-loop-k l = elem l.version (drop l.from (entries l.bytes)) ≡ (l.found || elem l.version (drop (l.from + l.k) (entries l.bytes)))
