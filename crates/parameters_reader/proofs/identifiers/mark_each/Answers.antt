-- `mark_each`: each small identifier is marked.
use mathlib.Core.List.{◌∷◌}
use mathlib.Core.Path.{sym, ◌∙◌}
use Rattle.parameters.specs.Items.{items_left}
use Rattle.parameters_reader.proofs.Marks.{Marking, marking-starts, seen-new, seen_twice}
use Rattle.parameters_reader.proofs.identifiers.mark_each.Goals.{At-loop-id, In-Some}
use Rattle.parameters_reader.proofs.identifiers.mark_each.Goals as goal

pub loop-id-init : goal.loop-id-init
loop-id-init c = rw c.into_iter-id-iterator.ensures.into_iter_gives (marking-starts _ _ c.requires)

next : (c : In-Some) → Marking (items_left c.args.parameters.sequence.now c.args.parameters.at) (c.in-Some.field-0 ∷ items_left c.next.new.self.sequence.now c.next.new.self.at) c.loop-id.seen
next c = rw c.in-Some.ensures.steps at c.loop-id.invariant

pub returns-then-see : goal.returns-then-see
returns-then-see c = sym (seen_twice _ _ _ _ (next (goal.at.returns-then-see c).In-Some) (sym c.see.ensures.answer ∙ c.if-see.true))

pub loop-id-preserved : goal.loop-id-preserved
loop-id-preserved c =
    let new = seen-new _ _ _ _ (next (goal.at.loop-id-preserved c).In-Some) (sym c.see.ensures.answer ∙ c.if-see.false) in
    rw c.see.ensures.left new
