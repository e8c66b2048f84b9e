-- `mark_own`: after i entries the rows are the first i words, in their places.
use mathlib.Core.List.{[]}
use mathlib.Core.Path.{◌≡◌}
use lib.ListN.{take}
use Rattle.versions.specs.Limits.{max_table}
use Rattle.attempt.specs.Attempt.{padded}
use Rattle.attempt.specs.OwnList.{rows_for}
use Rattle.client_start.proofs.words.mark_own.Given as goal

abbrev pub invariant-loop-i : goal.invariant-loop-i
invariant-loop-i l = l.rows ≡ padded max_table (take l.i (rows_for l.table.versions.now l.table.versions.now [] []))
