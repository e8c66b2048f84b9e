-- `renewed_size`: parameter by parameter.
use Prim.Native.Nat.{ℕ, ◌+◌}
use mathlib.Core.List.{◌∷◌}
use mathlib.Core.Path.{sym, ap, ◌∙◌}
use native.Mathlib.Omega.{arith}
use Rattle.integers.specs.Integers.{shortest_width}
use Rattle.parameters.specs.Items.{items_left}
use Rattle.parameters.proofs.Walk.{Inside}
use Rattle.parameters_writer.proofs.Contents.{length-short, new-size}
use Rattle.parameters_writer.proofs.Turns.{Measured, measured-here, measured-next, measured-none}
use Rattle.parameters_writer.proofs.size.renewed_size.Goals.{After-parameter_size-bytes, In-Some}
use Rattle.parameters_writer.proofs.size.renewed_size.Goals as goal

pub loop-id-init : goal.loop-id-init
loop-id-init c = rw (c.into_iter-id-iterator.ensures.into_iter_gives, c.args.renewal.start) (measured-none _ _)

next : (c : In-Some)
    → Measured c.args.renewal.old.sequence.now c.args.renewal.value.now (c.in-Some.field-0 ∷ items_left c.next.new.self.sequence.now c.next.new.self.at) c.loop-id.bytes c.loop-id.count
next c = rw c.in-Some.ensures.steps at c.loop-id.invariant

inside : (c : In-Some) → Inside c.args.renewal.old.sequence.now (next c).at c.in-Some.field-0
inside c = measured-here (next c)

pub overflow_sub-value : goal.overflow_sub-value
overflow_sub-value c = (inside (goal.at.overflow_sub-value c).In-Some).in_order

pub parameter_size-bytes-requires : goal.parameter_size-bytes-requires
parameter_size-bytes-requires c =
    let r = c.args.renewal in
    let short = length-short r.old.sequence.now r.value.now c.in-Some.field-0 r.short r.old.short (inside (goal.at.parameter_size-bytes-requires c).In-Some).ends in
    omega (arith, c.renewed_length.ensures, short)

-- A turn
turn : (c : After-parameter_size-bytes)
    → Measured c.args.renewal.old.sequence.now c.args.renewal.value.now (items_left c.next.new.self.sequence.now c.next.new.self.at)
    (c.loop-id.bytes + c.parameter_size-bytes.result) (c.loop-id.count + 1)
turn c =
    let r = c.args.renewal in
    let at = (goal.at.After-parameter_size-bytes c).In-Some in
    let f = c.in-Some.field-0 in
    let size = ap (λ (n : ℕ). shortest_width f.id + (shortest_width n + n)) c.renewed_length.ensures in
    measured-next r.old.sequence.now r.value.now f _ _ _ _ r.old.short r.short (next at)
    (c.parameter_size-bytes.ensures ∙ size ∙ sym (new-size r.old.sequence.now r.value.now f (inside at).in_order (inside at).ends))

pub loop-id-preserved : goal.loop-id-preserved
loop-id-preserved c = turn (goal.at.loop-id-preserved c).After-parameter_size-bytes

pub overflow_add-bytes : goal.overflow_add-bytes
overflow_add-bytes c =
    let t = turn (goal.at.overflow_add-bytes c).After-parameter_size-bytes in
    omega (arith, t.fits, t.inside, c.args.renewal.old.short)
