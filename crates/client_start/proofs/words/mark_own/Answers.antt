-- `mark_own`: after i entries the rows are the first i words, in their places.
use Prim.Native.Nat.{ℕ}
use mathlib.Core.List.{List, []}
use mathlib.Core.Path.{◌≡◌, sym, ap, ◌∙◌}
use native.Mathlib.Omega.{arith}
use lib.ListN.{length, get_or}
use Rattle.versions.specs.Limits.{max_table}
use Rattle.versions.specs.Words.{marked}
use Rattle.versions.proofs.Lists.{table-counts, table-entries}
use Rattle.versions.proofs.Marked.{word-of-all}
use Rattle.attempt.specs.OwnList.{rows_for}
use Rattle.attempt.proofs.Padded.{padded-none, push-next, padded-all}
use Rattle.client_start.proofs.Rows.{word_none, length-rows, row_at}
use Rattle.client_start.proofs.words.mark_own.Goals as goal

pub loop-i-init : goal.loop-i-init
loop-i-init c = c.requires

pub loop-i-preserved : goal.loop-i-preserved
loop-i-preserved c = let table = c.args.table.versions.now in
    let kept = c.args.table.rule in
    let few = (table-counts table kept).1 in
    let rows = rows_for table table [] [] in
    let i = c.loop-i.i in
    let all : length rows ≡ length table = length-rows table table [] [] in
    let word : c.mark.result ≡ get_or rows i 0 =
    c.mark.ensures ∙
    ap (λ (ts : List ℕ). marked ts (get_or table i 0) 0) (word-of-all table kept) ∙
    word_none table (table-entries table kept) (get_or table i 0) ∙
    sym (row_at table table [] [] i (omega arith)) in
    rw (c.loop-i.invariant, word) (push-next max_table rows i (omega arith) (omega arith))

pub bounds-rows-i : goal.bounds-rows-i
bounds-rows-i c = let few = (table-counts c.args.table.versions.now c.args.table.rule).1 in
    omega arith

pub returns : goal.returns
returns c = let table = c.args.table.versions.now in
    let rows = rows_for table table [] [] in
    let all : length rows ≡ length table = length-rows table table [] [] in
    c.loop-i.invariant ∙ padded-all max_table rows c.loop-i.i (omega arith)
