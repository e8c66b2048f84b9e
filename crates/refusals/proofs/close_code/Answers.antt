-- `close_code` meets its contract: what was read has the code of its row, a writer none.
use Rattle.refusals.specs.Close.{close_of}
use Rattle.refusals.proofs.close_code.Goals as goal

pub returns-in-Reading : goal.returns-in-Reading
unfolding close_of
returns-in-Reading c = rw c.in-Reading.is c.code_in_the_table.ensures

pub returns-in-Writing : goal.returns-in-Writing
unfolding close_of
returns-in-Writing c = rw c.in-Writing.is
