-- `has_hit`: no version that stands is passed over.
use lib.ListN.{drop}
use Rattle.lists.specs.Wire.{entries}
use Rattle.slots.specs.Slots.{Passed}
use Rattle.slots.proofs.scan.has_hit.Given as goal

abbrev pub invariant-loop-k : goal.invariant-loop-k
invariant-loop-k l = Passed l.slots.words (entries l.bytes) (drop l.k (entries l.bytes)) l.slots.factor.value
