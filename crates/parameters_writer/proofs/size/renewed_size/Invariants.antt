-- `renewed_size`: parameter by parameter.
use Rattle.parameters.specs.Items.{items_left}
use Rattle.parameters_writer.proofs.Turns.{Measured}
use Rattle.parameters_writer.proofs.size.renewed_size.Given as goal

abbrev pub invariant-loop-id : goal.invariant-loop-id
invariant-loop-id l = Measured l.fn.renewal.old.sequence.now l.fn.renewal.value.now (items_left l.id-iterator.sequence.now l.id-iterator.at) l.bytes l.count
