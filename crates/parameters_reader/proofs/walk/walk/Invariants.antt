-- `walk`: parameter by parameter.
use Rattle.parameters.specs.Items.{items_left}
use Rattle.parameters_reader.proofs.Passing.{Passing}
use Rattle.parameters_reader.proofs.walk.walk.Given as goal

abbrev pub invariant-loop-id : goal.invariant-loop-id
invariant-loop-id l = Passing l.fn.parameters.sequence.now l.ids (items_left l.id-iterator.sequence.now l.id-iterator.at) l.at l.count l.ours
