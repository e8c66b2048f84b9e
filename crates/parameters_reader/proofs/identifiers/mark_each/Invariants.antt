-- `mark_each`: each small identifier that is passed is marked.
use Rattle.parameters.specs.Items.{items_left}
use Rattle.parameters_reader.proofs.Marks.{Marking}
use Rattle.parameters_reader.proofs.identifiers.mark_each.Given as goal

abbrev pub invariant-loop-id : goal.invariant-loop-id
invariant-loop-id l = Marking (items_left l.fn.parameters.sequence.now l.fn.parameters.at) (items_left l.id-iterator.sequence.now l.id-iterator.at) l.seen
