-- `from_hit`: what a group without a hit passed over, the next does not need.
use Prim.Native.Nat.{◌≤◌}
use lib.ListN.{length}
use Rattle.lists.specs.Wire.{entries}
use Rattle.slots.specs.Slots.{Passed}
use Rattle.slots.proofs.scan.from_hit.Given as goal

abbrev pub invariant-loop-rest : goal.invariant-loop-rest
invariant-loop-rest l = (length (entries l.rest) ≤ length (entries l.bytes)) × Passed l.slots.words (entries l.bytes) (entries l.rest) l.slots.factor.value

abbrev pub decreases-loop-rest : goal.decreases-loop-rest
decreases-loop-rest l = length l.rest
