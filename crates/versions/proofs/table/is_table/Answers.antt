-- The rest from i on answers for the whole.
use mathlib.Core.Path.{◌≡◌, sym, ◌∙◌}
use Prim.Native.Nat.{◌+◌}
use lib.ListN.{drop, get_or}
use Rattle.versions.specs.Table.{elem}
use Rattle.versions.proofs.Lists.{table-once, once-fails, once-twice, once-next, once-end, elem-part}
use Rattle.versions.proofs.table.is_table.Goals.{After-contains}
use Rattle.versions.proofs.table.is_table.Goals as goal

-- Whether the entry at the loop's place occurs after it
later :
    (c : After-contains) →
    let table = c.args.table.now in
    elem (get_or table c.loop-i.i 0) (drop (c.loop-i.i + 1) table) ≡ c.contains.result
later c = sym (c.contains.ensures ∙ elem-part _ c.args.table.now (c.loop-i.i + 1))

pub returns-then-not-is_usable : goal.returns-then-not-is_usable
returns-then-not-is_usable c = sym
    (c.loop-i.invariant ∙
    once-fails table-once _ _ c.loop-i-test.true
    (sym c.is_usable.ensures ∙ c.if-not-is_usable.true))

pub returns-then-contains : goal.returns-then-contains
returns-then-contains c = sym
    (c.loop-i.invariant ∙
    once-twice table-once _ _ c.loop-i-test.true
    (sym c.is_usable.ensures ∙ c.if-not-is_usable.false)
    (later (goal.at.returns-then-contains c).After-contains ∙ c.if-contains.true))

pub loop-i-preserved : goal.loop-i-preserved
loop-i-preserved c = c.loop-i.invariant ∙
    once-next table-once _ _ c.loop-i-test.true
    (sym c.is_usable.ensures ∙ c.if-not-is_usable.false)
    (later (goal.at.loop-i-preserved c).After-contains ∙ c.if-contains.false)

pub returns : goal.returns
returns c = sym (c.loop-i.invariant ∙ once-end table-once _ _ c.loop-i-test.false)
