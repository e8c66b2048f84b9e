-- The rest answers for the whole.
use mathlib.Core.Path.{sym, ◌∙◌}
use Rattle.client_datagram.proofs.Compared.{same-lengths, same-differ, same_next, same_end}
use Rattle.client_datagram.proofs.connection.is_same.Goals as goal

pub returns-then-left-right : goal.returns-then-left-right
returns-then-left-right c = sym (same-lengths _ _ c.if-left-right.true)

pub returns-then-left-i : goal.returns-then-left-i
returns-then-left-i c = sym
    (c.loop-i.invariant ∙ same-differ _ _ _ c.if-left-right.false c.loop-i-test.true c.if-left-i.true)

pub loop-i-preserved : goal.loop-i-preserved
loop-i-preserved c =
    c.loop-i.invariant ∙ same_next _ _ _ c.if-left-right.false c.loop-i-test.true c.if-left-i.false

pub returns : goal.returns
returns c = sym (c.loop-i.invariant ∙ same_end _ _ _ c.if-left-right.false c.loop-i-test.false)
