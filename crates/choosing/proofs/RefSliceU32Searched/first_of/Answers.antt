-- The rest of the table answers for the whole.
use mathlib.Core.Path.{sym, ◌∙◌}
use Rattle.choosing.proofs.Chosen.{preferred-here, preferred-next, preferred-end}
use Rattle.choosing.proofs.RefSliceU32Searched.first_of.Goals as goal

pub returns-then-holds : goal.returns-then-holds
returns-then-holds c = sym
    (c.loop-version.invariant ∙
    preferred-here _ _ _ c.loop-version-test.true
    (sym c.holds.ensures ∙ c.if-holds.true))

pub loop-version-preserved : goal.loop-version-preserved
loop-version-preserved c = c.loop-version.invariant ∙
    preferred-next _ _ _ c.loop-version-test.true
    (sym c.holds.ensures ∙ c.if-holds.false)

pub returns : goal.returns
returns c = sym (c.loop-version.invariant ∙ preferred-end _ _ _ c.loop-version-test.false)
