-- `from_hit_in_rest`: no version that stands is passed over.
use lib.ListN.{drop}
use Rattle.lists.specs.Wire.{entries}
use Rattle.slots.specs.Slots.{Passed}
use Rattle.slots.proofs.scan.from_hit_in_rest.Given as goal

abbrev pub invariant-loop-i : goal.invariant-loop-i
invariant-loop-i l = Passed l.slots.words (entries l.bytes) (drop l.i (entries l.bytes)) l.slots.factor.value
