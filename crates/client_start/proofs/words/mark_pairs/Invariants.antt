-- `mark_pairs`: from the pairs' end on, the rows so far are those of the rest of the pairs.
use Prim.Native.Nat.{◌-◌}
use mathlib.Core.List.{[]}
use mathlib.Core.Path.{◌≡◌}
use lib.ListN.{length, drop}
use Rattle.versions.specs.Limits.{max_table}
use Rattle.attempt.specs.Attempt.{padded}
use Rattle.attempt.specs.OwnList.{rows_for}
use Rattle.client_start.proofs.words.mark_pairs.Given as goal

abbrev pub invariant-loop-pair : goal.invariant-loop-pair
invariant-loop-pair l = l.rows ≡ padded max_table (rows_for l.table.versions.now l.table.versions.now (drop (length l.pairs - length l.yielded) l.pairs) [])
