-- `given_for`: the rest of those that are given answers for the whole.
use mathlib.Core.Path.{sym, ◌∙◌}
use Rattle.client_information.proofs.Given.{given-here, given-next, given-end}
use Rattle.client_information.proofs.given_for.Goals as goal

pub returns-then-one-place : goal.returns-then-one-place
returns-then-one-place c = sym (c.loop-one.invariant ∙ given-here _ _ _ c.loop-one-test.true c.if-one-place.true)

pub loop-one-preserved : goal.loop-one-preserved
loop-one-preserved c = c.loop-one.invariant ∙ given-next _ _ _ c.loop-one-test.true c.if-one-place.false

pub returns : goal.returns
returns c = sym (c.loop-one.invariant ∙ given-end _ _ _ c.loop-one-test.false)
