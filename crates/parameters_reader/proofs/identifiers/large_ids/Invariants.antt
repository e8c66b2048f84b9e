-- `large_ids`: each large identifier that is passed is put behind those before it.
use Rattle.parameters.specs.Items.{items_left}
use Rattle.parameters_reader.proofs.Marks.{Gathering}
use Rattle.parameters_reader.proofs.identifiers.large_ids.Given as goal

abbrev pub invariant-loop-id : goal.invariant-loop-id
invariant-loop-id l = Gathering (items_left l.fn.parameters.sequence.now l.fn.parameters.at) (items_left l.id-iterator.sequence.now l.id-iterator.at) l.numbers l.count
