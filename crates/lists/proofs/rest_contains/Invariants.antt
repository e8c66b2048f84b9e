-- The entries from the place on answer for all from the first place on.
use Prim.Native.Nat.{◌/◌}
use mathlib.Core.Path.{◌≡◌}
use lib.ListN.{length, drop}
use Rattle.versions.specs.Table.{elem}
use Rattle.lists.specs.Wire.{entries, version_bytes}
use Rattle.lists.proofs.rest_contains.Given as goal

abbrev pub invariant-loop-i : goal.invariant-loop-i
invariant-loop-i l = (l.end ≡ length l.bytes / version_bytes)
    × (elem l.version (drop l.from (entries l.bytes)) ≡ elem l.version (drop l.i (entries l.bytes)))
