-- The entries from the place on answer for the whole list.
use Prim.Native.Nat.{◌*◌, ◌/◌}
use mathlib.Core.Path.{◌≡◌}
use lib.ListN.{length, drop}
use Rattle.versions.specs.Table.{elem}
use Rattle.lists.specs.Limits.{block}
use Rattle.lists.specs.Wire.{entries, version_bytes}
use Rattle.lists.proofs.contains_in_bytes.Given as goal

abbrev pub invariant-loop-i : goal.invariant-loop-i
invariant-loop-i l = (l.blocks ≡ length l.bytes / version_bytes / block)
    × (elem l.version (entries l.bytes) ≡ elem l.version (drop (l.i * block) (entries l.bytes)))
