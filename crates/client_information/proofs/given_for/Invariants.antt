-- `given_for`: the rest of those that are given answers for the whole.
use mathlib.Core.Path.{◌≡◌}
use lib.ListN.{drop}
use Rattle.attempt.specs.AsSent.{given_for}
use Rattle.client_information.proofs.given_for.Given as goal

abbrev pub invariant-loop-one : goal.invariant-loop-one
invariant-loop-one l = given_for l.reserved l.place ≡ given_for (drop l.one-index l.reserved) l.place
