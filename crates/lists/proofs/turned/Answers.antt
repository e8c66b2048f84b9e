-- The four bytes in the other order.
use native.Mathlib.Omega.{arith}
use Rattle.lists.specs.Wire.{turned}
use Rattle.lists.proofs.turned.Goals as goal

pub returns : goal.returns
unfolding turned
returns c = omega (arith, c.swap_bytes.ensures, c.ranges.version)
