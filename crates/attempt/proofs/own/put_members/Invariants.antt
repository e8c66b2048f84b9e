-- `put_members`: at each turn, the entries so far stand over what was found, and the rest of the word adds what is
-- missing.
use mathlib.Core.Path.{◌≡◌}
use lib.ListN.{length, take}
use Rattle.versions.specs.Limits.{max_table}
use Rattle.attempt.proofs.Walks.{Collected}
use Rattle.attempt.proofs.own.put_members.Given as goal

abbrev pub invariant-loop-rest : goal.invariant-loop-rest
invariant-loop-rest l = (l.count ≡ length (take max_table l.table)) × Collected l.word (take max_table l.table) l.initial.places l.places l.found l.rest

abbrev pub decreases-loop-rest : goal.decreases-loop-rest
decreases-loop-rest l = l.rest
