-- `word_of` meets its contract: each turn takes an entry and its word, and the rest answers for the whole.
use mathlib.Core.Path.{sym, ◌∙◌}
use lib.ListN.{length}
use borrow.Author.Rules.{rules}
use Rattle.std.proofs.lemmas.List.{length_push}
use Rattle.std.proofs.lemmas.Slice.Zip.{zip_turn, zip_end}
use Rattle.attempt.proofs.Walks.{word_here, word_next, word_end}
use Rattle.attempt.proofs.own.word_of.Goals as goal

pub returns-then-entry-version : goal.returns-then-entry-version
returns-then-entry-version c =
    let g = c.args in
    let l = c.loop-entry in
    let t = zip_turn g.table.now g.rows.now l.yielded c.into_iter-entry-iterator.result l.entry-iterator c.next.new.self c.next.result (search rules) (search rules) l.yielded_by (c.in-Some.entry, c.in-Some.word) c.in-Some.is c.next.ensures.steps in
    t.3 0 ∙ sym (l.invariant ∙ word_here g.version g.table.now g.rows.now (length l.yielded) t.0 t.1 (sym (t.2 0) ∙ c.if-entry-version.true))

pub loop-entry-preserved : goal.loop-entry-preserved
loop-entry-preserved c =
    let g = c.args in
    let l = c.loop-entry in
    let t = zip_turn g.table.now g.rows.now l.yielded c.into_iter-entry-iterator.result l.entry-iterator c.next.new.self c.next.result (search rules) (search rules) l.yielded_by (c.in-Some.entry, c.in-Some.word) c.in-Some.is c.next.ensures.steps in
    rw (length_push l.yielded (c.in-Some.entry, c.in-Some.word))
    (l.invariant ∙ word_next g.version g.table.now g.rows.now (length l.yielded) t.0 t.1 (λ e. c.if-entry-version.false (t.2 0 ∙ e)))

pub returns : goal.returns
returns c =
    let g = c.args in
    let l = c.loop-entry in
    let t = zip_end g.table.now g.rows.now l.yielded c.into_iter-entry-iterator.result l.entry-iterator c.next.new.self c.next.result (search rules) (search rules) l.yielded_by c.in-None.is c.next.ensures.steps in
    sym (l.invariant ∙ word_end g.version g.table.now g.rows.now (length l.yielded) t)
