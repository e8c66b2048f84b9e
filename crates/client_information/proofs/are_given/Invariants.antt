-- `are_given` meets its contract. The loop's invariant: the rest of those that are given answers for the whole.
use mathlib.Core.Path.{◌≡◌}
use lib.ListN.{drop}
use Rattle.attempt.specs.AsSent.{each_given_keeps_rule, given_keep_rule}
use Rattle.client_information.proofs.are_given.Given as goal

abbrev pub invariant-loop-i : goal.invariant-loop-i
invariant-loop-i l = given_keep_rule l.entries l.reserved ≡ each_given_keeps_rule l.entries (drop l.i l.reserved)
