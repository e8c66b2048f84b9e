-- The rest from i on answers for the whole.
use mathlib.Core.Path.{◌≡◌, sym, ◌∙◌}
use Prim.Native.Nat.{◌+◌}
use lib.ListN.{drop, get_or}
use Rattle.versions.specs.Table.{elem}
use Rattle.versions.proofs.Lists.{reserved-once, once-fails, once-twice, once-next, once-end, elem-part}
use Rattle.versions.proofs.table.are_reserved.Goals.{After-contains}
use Rattle.versions.proofs.table.are_reserved.Goals as goal

-- Whether the entry at the loop's place occurs after it
later :
    (c : After-contains) →
    let numbers = c.args.numbers.now in
    elem (get_or numbers c.loop-i.i 0) (drop (c.loop-i.i + 1) numbers) ≡ c.contains.result
later c = sym (c.contains.ensures ∙ elem-part _ c.args.numbers.now (c.loop-i.i + 1))

pub returns-then-not-is_reserved : goal.returns-then-not-is_reserved
returns-then-not-is_reserved c = sym
    (c.loop-i.invariant ∙
    once-fails reserved-once _ _ c.loop-i-test.true
    (sym c.is_reserved.ensures ∙ c.if-not-is_reserved.true))

pub returns-then-contains : goal.returns-then-contains
returns-then-contains c = sym
    (c.loop-i.invariant ∙
    once-twice reserved-once _ _ c.loop-i-test.true
    (sym c.is_reserved.ensures ∙ c.if-not-is_reserved.false)
    (later (goal.at.returns-then-contains c).After-contains ∙ c.if-contains.true))

pub loop-i-preserved : goal.loop-i-preserved
loop-i-preserved c = c.loop-i.invariant ∙
    once-next reserved-once _ _ c.loop-i-test.true
    (sym c.is_reserved.ensures ∙ c.if-not-is_reserved.false)
    (later (goal.at.loop-i-preserved c).After-contains ∙ c.if-contains.false)

pub returns : goal.returns
returns c = sym (c.loop-i.invariant ∙ once-end reserved-once _ _ c.loop-i-test.false)
