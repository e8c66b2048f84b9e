-- `put_renewed`: parameter by parameter, each at the front of what is left of the buffer.
use Rattle.parameters.specs.Items.{items_left}
use Rattle.parameters_writer.proofs.Turns.{Renewing}
use Rattle.parameters_writer.proofs.putting.put_renewed.Given as goal

abbrev pub invariant-loop-parameter : goal.invariant-loop-parameter
invariant-loop-parameter l = Renewing l.fn.renewal.old.sequence.now l.fn.renewal.value.now l.initial.buffer (items_left l.parameter-iterator.sequence.now l.parameter-iterator.at) l.buffer l.count
