-- The rest answers for the whole.
use mathlib.Core.Path.{◌≡◌}
use lib.ListN.{drop}
use Rattle.attempt.specs.Step.{same}
use Rattle.client_datagram.proofs.connection.is_same.Given as goal

abbrev pub invariant-loop-i : goal.invariant-loop-i
invariant-loop-i l = same l.left l.right ≡ same (drop l.i l.left) (drop l.i l.right)
