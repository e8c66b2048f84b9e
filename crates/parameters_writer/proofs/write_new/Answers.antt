-- `write_new`: the tests are the rules of the new sequence in their order; then it is put.
use Prim.Native.Nat.{ℕ, ◌<◌, ◌≤◌}
use mathlib.Core.Bool.{not}
use mathlib.Core.List.{List}
use mathlib.Core.Path.{◌≡◌, refl, sym, ap, ◌∙◌, subst}
use native.Mathlib.Omega.{arith}
use lib.ListN.{length}
use Rattle.refusals.specs.Reply.{Reply.answered}
use Rattle.refusals.specs.Written.{leaves}
use Rattle.parameters.specs.Items.{items_left}
use Rattle.parameters.specs.Limits.{max_parameters, max_sequence}
use Rattle.parameters.specs.Reading.{fields_in}
use Rattle.parameters.specs.Sequence.{fields_of}
use Rattle.parameters.specs.Writing.{Content, carrying, contents_in, contents_of, holds_ours, sequence_bytes}
use Rattle.parameters_writer.proofs.Contents.{value-within}
use Rattle.parameters_writer.proofs.Judging.{all-left, no_room, too_long, too_many, written}
use Rattle.parameters_writer.proofs.write_new.Goals.{Start, After-size_of-size}
use Rattle.parameters_writer.proofs.write_new.Goals as goal

-- What the old sequence says is what its parameters say
old_same : (c : Start) → contents_in c.args.old.sequence.now (items_left c.args.old.sequence.now c.args.old.at) ≡ contents_of c.args.old.sequence.now
old_same c =
    let s = c.args.old.sequence.now in
    ap (λ (at : ℕ). contents_in s (items_left s at)) c.requires.start ∙ ap (contents_in s) (all-left s c.args.value.now c.requires.read)

pub returns-then-value-gt-MAX_SEQUENCE : goal.returns-then-value-gt-MAX_SEQUENCE
returns-then-value-gt-MAX_SEQUENCE c = let old = c.args.old.sequence.now in
    let value = c.args.value.now in
    let within = value-within old value (fields_in (fields_of old)) in
    let long : max_sequence < length (sequence_bytes (carrying value (contents_of old))) = omega (arith, c.if-value-gt-MAX_SEQUENCE.true, within) in
    rw (too_long old value c.requires.read _ long) (record { answer = refl; left = refl })

pub invariant_of-renewal : goal.invariant_of-renewal
invariant_of-renewal c = record {
  start = c.requires.start;
  short = c.if-value-gt-MAX_SEQUENCE.false;
  is_missing = c.requires.last ∙ ap (λ (ps : List Content). not (holds_ours ps)) (sym (old_same (goal.at.invariant_of-renewal c).Start));
}

-- What is known of the size
record Sized (c : After-size_of-size) : Type 0 where
  bytes : c.size_of-size.result.bytes ≡ length (sequence_bytes (carrying c.args.value.now (contents_of c.args.old.sequence.now)))
  count : c.size_of-size.result.count ≡ length (carrying c.args.value.now (contents_of c.args.old.sequence.now))

sized : (c : After-size_of-size) → Sized c
sized c =
    let same = old_same (goal.at.After-size_of-size c).Start in
    record {
      bytes = c.size_of-size.ensures.bytes ∙ ap (λ (ps : List Content). length (sequence_bytes (carrying c.args.value.now ps))) same;
      count = c.size_of-size.ensures.count ∙ ap (λ (ps : List Content). length (carrying c.args.value.now ps)) same;
    }

pub returns-then-size-gt-MAX_SEQUENCE : goal.returns-then-size-gt-MAX_SEQUENCE
returns-then-size-gt-MAX_SEQUENCE c =
    let z = sized (goal.at.returns-then-size-gt-MAX_SEQUENCE c).After-size_of-size in
    rw (too_long c.args.old.sequence.now c.args.value.now c.requires.read _ (subst (λ (n : ℕ). max_sequence < n) z.bytes c.if-size-gt-MAX_SEQUENCE.true)) (record { answer = refl; left = refl })

pub returns-then-buffer-size : goal.returns-then-buffer-size
returns-then-buffer-size c =
    let z = sized (goal.at.returns-then-buffer-size c).After-size_of-size in
    let room = length c.args.buffer.now in
    let new = carrying c.args.value.now (contents_of c.args.old.sequence.now) in
    let short : length (sequence_bytes new) ≤ max_sequence = omega (arith, z.bytes) in
    let past : room < length (sequence_bytes new) = omega (arith, z.bytes) in
    rw (no_room c.args.old.sequence.now c.args.value.now c.requires.read room short past)
    (record { answer = refl; left = refl })

pub returns-then-size-gt-MAX_PARAMETERS : goal.returns-then-size-gt-MAX_PARAMETERS
returns-then-size-gt-MAX_PARAMETERS c =
    let z = sized (goal.at.returns-then-size-gt-MAX_PARAMETERS c).After-size_of-size in
    let room = length c.args.buffer.now in
    let new = carrying c.args.value.now (contents_of c.args.old.sequence.now) in
    let short : length (sequence_bytes new) ≤ max_sequence = omega (arith, z.bytes) in
    let fits : length (sequence_bytes new) ≤ room = omega (arith, z.bytes) in
    let many : max_parameters < length new = omega (arith, z.count) in
    rw (too_many c.args.old.sequence.now c.args.value.now c.requires.read room short fits many)
    (record { answer = refl; left = refl })

pub returns : goal.returns
returns c =
    let z = sized (goal.at.returns c).After-size_of-size in
    let room = length c.args.buffer.now in
    let same = old_same (goal.at.returns c).Start in
    rw (written c.args.old.sequence.now c.args.value.now c.requires.read room (subst (λ (n : ℕ). n ≤ max_sequence) z.bytes c.if-size-gt-MAX_SEQUENCE.false)
    (subst (λ (n : ℕ). n ≤ room) z.bytes c.if-buffer-size.false) (subst (λ (n : ℕ). n ≤ max_parameters) z.count c.if-size-gt-MAX_PARAMETERS.false))
    (record { answer = ap answered z.bytes; left = c.put_sequence.ensures ∙ ap (λ (ps : List Content). leaves (answered (sequence_bytes (carrying c.args.value.now ps))) c.args.buffer.now) same })
