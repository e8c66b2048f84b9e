-- `put_sequence`: those that were there, and ours behind them where it is not among them.
use Prim.Native.Nat.{ℕ, ◌≤◌}
use mathlib.Core.Bool.{false}
use mathlib.Core.List.{List, ◌++◌}
use mathlib.Core.Path.{◌≡◌, sym, ap, ◌∙◌}
use native.Mathlib.Nat.{le_trans}
use native.Mathlib.Omega.{arith}
use borrow.Author.Tests.{not-false, not-true}
use lib.ListN.{length}
use Rattle.refusals.specs.Reply.{Reply.answered}
use Rattle.refusals.specs.Written.{leaves}
use Rattle.parameters.specs.Writing.{content_bytes, contents_in, holds_ours, ours}
use Rattle.parameters_writer.specs.Renewing.{fields_in_old, renewed_old}
use Rattle.parameters_writer.proofs.Contents.{new-last, new-there, renewed-within}
use Rattle.parameters_writer.proofs.Runs.{Begins, begins-more, begins-room}
use Rattle.parameters_writer.proofs.putting.put_sequence.Goals.{After-put_renewed-there, Then-renewal}
use Rattle.parameters_writer.proofs.putting.put_sequence.Goals as goal

pub put_renewed-there-requires : goal.put_renewed-there-requires
put_renewed-there-requires c = le_trans (renewed-within c.args.renewal.old.sequence.now c.args.renewal.value.now _) c.requires

there-put : (c : After-put_renewed-there) → Begins c.args.buffer.now (renewed_old c.args.renewal) c.put_renewed-there.new.buffer c.put_renewed-there.result
there-put c = record { counts = c.put_renewed-there.ensures.count; left = c.put_renewed-there.ensures.left }

-- Ours is not among them, and there is room for it
missing : (c : Then-renewal) → holds_ours (contents_in c.args.renewal.old.sequence.now (fields_in_old c.args.renewal)) ≡ false
missing c = not-true _ (sym c.args.renewal.is_missing ∙ c.if-renewal.true)

room : (c : Then-renewal) → length (renewed_old c.args.renewal ++ content_bytes (ours c.args.renewal.value.now)) ≤ length c.args.buffer.now
room c = rw (← new-last c.args.renewal.old.sequence.now c.args.renewal.value.now _ (missing c)) c.requires

pub put_parameter-requires : goal.put_parameter-requires
put_parameter-requires c = record {
  written = (omega arith, omega (arith, c.args.renewal.short));
  room = begins-room c.args.buffer.now _ _ _ (there-put (goal.at.put_parameter-requires c).After-put_renewed-there)
      (content_bytes (ours c.args.renewal.value.now)) (room (goal.at.put_parameter-requires c).Then-renewal);
}

pub returns-then-renewal : goal.returns-then-renewal
returns-then-renewal c = let call = c.put_parameter in
    let all = begins-more c.args.buffer.now _ _ _ (there-put (goal.at.returns-then-renewal c).After-put_renewed-there)
    (content_bytes (ours c.args.renewal.value.now)) _ _ call.ensures.count call.ensures.left in
    all.left ∙ ap (λ (l : List ℕ). leaves (answered l) c.args.buffer.now)
    (sym (new-last c.args.renewal.old.sequence.now c.args.renewal.value.now _ (missing (goal.at.returns-then-renewal c).Then-renewal)))

pub returns-else-renewal : goal.returns-else-renewal
returns-else-renewal c =
    let is-there = not-false _ (sym c.args.renewal.is_missing ∙ c.if-renewal.false) in
    c.put_renewed-there.ensures.left
    ∙ ap (λ (l : List ℕ). leaves (answered l) c.args.buffer.now) (sym (new-there c.args.renewal.old.sequence.now c.args.renewal.value.now _ is-there))
