-- `size_of`: the size of those that were there, and of ours where it is not among them.
use Prim.Native.Nat.{ℕ, ◌+◌}
use mathlib.Core.Path.{sym, ap, ap₂, ◌∙◌}
use native.Mathlib.Omega.{arith}
use borrow.Author.Tests.{not-false, not-true}
use lib.ListN.{length, length-append}
use Rattle.integers.proofs.Least.{shortest-width-top}
use Rattle.parameters.specs.Limits.{version_information}
use Rattle.parameters.specs.Writing.{content_bytes, ours}
use Rattle.parameters_writer.specs.Renewing.{fields_in_old, renewed_old}
use Rattle.parameters_writer.proofs.Contents.{content-size, count-last, count-there, new-last, new-there}
use Rattle.parameters_writer.proofs.size.size_of.Goals as goal

pub overflow_add-size : goal.overflow_add-size
overflow_add-size c = let value = c.args.renewal.value.now in
    omega (
      arith,
      c.renewed_size-size.ensures.few.0,
      c.parameter_size.ensures,
      shortest-width-top version_information,
      shortest-width-top (length value),
      c.args.renewal.short,
    )

pub returns-then-renewal : goal.returns-then-renewal
returns-then-renewal c = let r = c.args.renewal in
    let s = r.old.sequence.now in
    let value = r.value.now in
    let missing = not-true _ (sym r.is_missing ∙ c.if-renewal.true) in
    let size = c.renewed_size-size.ensures in record {
      bytes = ap₂ (λ (a b : ℕ). a + b) size.bytes (c.parameter_size.ensures ∙ sym (content-size (ours value)))
          ∙ sym (length-append (renewed_old r) (content_bytes (ours value))) ∙ sym (ap length (new-last s value (fields_in_old r) missing));
      count = ap (λ (n : ℕ). n + 1) size.count ∙ sym (count-last s value (fields_in_old r) missing);
    }

pub returns-else-renewal : goal.returns-else-renewal
returns-else-renewal c = let r = c.args.renewal in
    let s = r.old.sequence.now in
    let value = r.value.now in
    let there = not-false _ (sym r.is_missing ∙ c.if-renewal.false) in
    let size = c.renewed_size-size.ensures in record {
      bytes = size.bytes ∙ sym (ap length (new-there s value (fields_in_old r) there));
      count = size.count ∙ sym (count-there s value (fields_in_old r) there);
    }
