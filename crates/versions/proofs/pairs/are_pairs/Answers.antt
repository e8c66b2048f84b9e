-- `are_pairs`: the rest of the pairs answers for the whole.
use mathlib.Core.Path.{sym, ◌∙◌}
use borrow.Author.Tests.{le-leb}
use Rattle.versions.specs.Pairs.{pairs_keep_rule}
use Rattle.versions.proofs.Lists.{pairs-broken, pairs_next, pairs_end}
use Rattle.versions.proofs.pairs.are_pairs.Goals as goal

pub loop-pair-init : goal.loop-pair-init
unfolding pairs_keep_rule
loop-pair-init c = rw (le-leb _ _ c.if-pairs-gt-MAX_PAIRS.false)

pub returns-then-not-is_pair : goal.returns-then-not-is_pair
returns-then-not-is_pair c = sym
    (c.loop-pair.invariant ∙ pairs-broken _ _ c.loop-pair-test.true (sym c.is_pair.ensures ∙ c.if-not-is_pair.true))

pub loop-pair-preserved : goal.loop-pair-preserved
loop-pair-preserved c = c.loop-pair.invariant ∙ pairs_next _ _ c.loop-pair-test.true (sym c.is_pair.ensures ∙ c.if-not-is_pair.false)

pub returns : goal.returns
returns c = sym (c.loop-pair.invariant ∙ pairs_end _ _ c.loop-pair-test.false)
