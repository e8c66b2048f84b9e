-- `put_rows`: from the barred pairs' end on, the rows so far are those with the rest of them barred.
use Prim.Native.Nat.{◌-◌}
use mathlib.Core.Path.{◌≡◌}
use lib.ListN.{length, drop}
use Rattle.versions.specs.Limits.{max_table}
use Rattle.attempt.specs.Attempt.{padded}
use Rattle.attempt.specs.OwnList.{rows_for}
use Rattle.client_start.proofs.words.put_rows.Given as goal

abbrev pub invariant-loop-excluded : goal.invariant-loop-excluded
invariant-loop-excluded l = l.rows ≡ padded max_table (rows_for l.table.versions.now l.table.versions.now l.pairs (drop (length l.barred - length l.yielded) l.barred))
