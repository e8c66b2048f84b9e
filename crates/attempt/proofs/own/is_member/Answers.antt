-- `is_member` meets its contract: each turn takes an entry and its bit, and the rest answers for the whole.
use mathlib.Core.Path.{sym, ap, ◌∙◌}
use lib.ListN.{get_or}
use Rattle.versions.specs.Table.{elem}
use Rattle.versions.proofs.Members.{bit-set, bit-clear, bits-end}
use Rattle.attempt.proofs.Walks.{first-is, first-is-not}
use Rattle.attempt.proofs.own.is_member.Goals.{else-rest-eq1, then-rest-eq1+else-entry-version}
use Rattle.attempt.proofs.own.is_member.Goals as goal

pub returns-then-entry-version : goal.returns-then-entry-version
returns-then-entry-version c = let g = c.args in
    let l = c.loop-entry in
    sym
    (l.invariant ∙
    ap (elem g.version)
    (bit-set g.table.now l.rest l.entry-index c.loop-entry-test.true c.if-rest-eq1.true) ∙
    first-is g.version (get_or g.table.now l.entry-index 0) _ c.if-entry-version.true)

pub loop-entry-preserved : goal.loop-entry-preserved
loop-entry-preserved c = let g = c.args in
    let l = c.loop-entry in
    l.invariant ∙
    (elim c.if-rest-eq1.branch [
      | then-rest-eq1+else-entry-version w ↦ ap (elem g.version) (bit-set g.table.now l.rest l.entry-index c.loop-entry-test.true w.if-rest-eq1.true) ∙
          first-is-not g.version (get_or g.table.now l.entry-index 0) _ w.if-entry-version.false
      | else-rest-eq1 w ↦ ap (elem g.version) (bit-clear g.table.now l.rest l.entry-index c.loop-entry-test.true w.if-rest-eq1.false)
    ])

pub returns : goal.returns
unfolding elem
returns c = let g = c.args in
    let l = c.loop-entry in
    sym (l.invariant ∙ ap (elem g.version) (bits-end g.table.now l.rest l.entry-index c.loop-entry-test.false))
