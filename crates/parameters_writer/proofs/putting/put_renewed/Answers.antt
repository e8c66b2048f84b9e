-- `put_renewed`: parameter by parameter, each at the front of what is left of the buffer.
use Prim.Native.Nat.{◌≤◌}
use mathlib.Core.List.{◌∷◌}
use lib.ListN.{length}
use Rattle.parameters.specs.Items.{items_left}
use Rattle.parameters_writer.specs.Renewing.{new_bytes, renewed_bytes}
use Rattle.parameters_writer.proofs.Runs.{begins-room}
use Rattle.parameters_writer.proofs.Turns.{Renewing, next-room, renewing-next, renewing-none, renewing-written}
use Rattle.parameters_writer.proofs.putting.put_renewed.Goals.{In-Some}
use Rattle.parameters_writer.proofs.putting.put_renewed.Goals as goal

pub loop-parameter-init : goal.loop-parameter-init
loop-parameter-init c = rw (c.into_iter-parameter-iterator.ensures.into_iter_gives, c.args.renewal.start) (renewing-none _ _ _)

next : (c : In-Some)
    → Renewing c.args.renewal.old.sequence.now c.args.renewal.value.now c.args.buffer.now
    (c.in-Some.parameter ∷ items_left c.next.new.self.sequence.now c.next.new.self.at) c.loop-parameter.buffer c.loop-parameter.count
next c = rw c.in-Some.ensures.steps at c.loop-parameter.invariant

fits : (c : In-Some) → length (renewed_bytes c.args.renewal.old.sequence.now c.args.renewal.value.now (items_left c.args.renewal.old.sequence.now 0)) ≤ length c.args.buffer.now
fits c = rw c.args.renewal.start at c.requires

pub put_next-count-requires : goal.put_next-count-requires
put_next-count-requires c =
    let at = (goal.at.put_next-count-requires c).In-Some in
    let r = c.args.renewal in
    record {
      written = renewing-written r.old.sequence.now r.value.now c.args.buffer.now _ _ _ _ (fits at) (next at) r.old.bytes;
      room = begins-room c.args.buffer.now _ _ _ (next at).begins (new_bytes r.old.sequence.now r.value.now c.in-Some.parameter)
          (next-room r.old.sequence.now r.value.now c.args.buffer.now _ _ _ _ (fits at) (next at));
    }

pub loop-parameter-preserved : goal.loop-parameter-preserved
loop-parameter-preserved c =
    let at = (goal.at.loop-parameter-preserved c).In-Some in
    let r = c.args.renewal in
    renewing-next r.old.sequence.now r.value.now c.args.buffer.now _ _ _ _ (fits at) (next at) _ _ c.put_next-count.ensures.count c.put_next-count.ensures.left
