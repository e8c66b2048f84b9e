-- `all_numbers` meets its contract: the constants are the numbers of the table, in its order.
use mathlib.Core.Path.{refl}
use Rattle.refusals.specs.Table.{numbers, numbers_of, table}
use Rattle.refusals.proofs.all_numbers.Goals as goal

pub returns : goal.returns
unfolding numbers numbers_of table
returns c = refl
