-- `place_of`: the place in the whole is i more than that in the rest.
use mathlib.Core.Path.{◌∙◌}
use Rattle.versions.proofs.Lists.{place_here, place-next, place_end}
use Rattle.versions.proofs.Searched.{stopped-there, stopped-past}
use Rattle.versions.proofs.table.place_of.Goals as goal

pub loop-i-init : goal.loop-i-init
loop-i-init c = c.passed_over-i.ensures.searched

pub returns-then-list-i : goal.returns-then-list-i
returns-then-list-i c =
    stopped-there _ c.args.list.now c.loop-i.i
    (c.loop-i.invariant ∙ place_here _ _ _ c.loop-i-test.true c.if-list-i.true) c.loop-i-test.true

pub loop-i-preserved : goal.loop-i-preserved
loop-i-preserved c = c.loop-i.invariant ∙ place-next _ _ _ c.loop-i-test.true c.if-list-i.false

pub returns : goal.returns
returns c =
    stopped-past _ c.args.list.now c.loop-i.i
    (c.loop-i.invariant ∙ place_end _ _ _ c.loop-i-test.false) c.loop-i-test.false
