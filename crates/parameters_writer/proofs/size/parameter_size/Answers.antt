-- `parameter_size`: the widths of both integers, 8 at the most, and the value.
use native.Mathlib.Omega.{arith}
use Rattle.integers.proofs.Least.{shortest-width-top}
use Rattle.parameters_writer.proofs.size.parameter_size.Goals as goal

pub overflow_add-result : goal.overflow_add-result
overflow_add-result c = omega (arith, shortest-width-top c.args.length)

pub overflow_add-result-2 : goal.overflow_add-result-2
overflow_add-result-2 c = let args = c.args in
    omega (arith, shortest-width-top args.id, shortest-width-top args.length)
