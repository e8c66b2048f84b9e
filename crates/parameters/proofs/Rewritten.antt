-- The laws of the shortest form: read, and written again with the value that was found, a sequence is in its shortest form,
-- which is not longer; and one that was in shortest form already stays as it is.
use Prim.Native.Nat.{ℕ, ◌+◌, ◌-◌, ◌≤◌}
use mathlib.Core.Bool.{true}
use mathlib.Core.List.{List, [], ◌∷◌}
use Rattle.std.specs.Prelude.{Option, Some}
use mathlib.Core.Path.{◌≡◌, refl, sym, ap, ◌∙◌}
use native.Mathlib.Omega.{arith}
use borrow.Author.Tests.{eqb-true}
use lib.Dec.{eqb}
use lib.ListN.{length, drop, length-append, drop_of_length-le}
use Rattle.refusals.specs.Reply.{Reply.answered}
use Rattle.refusals.proofs.Rules.{both_true}
use Rattle.integers.specs.Integers.{shortest_width}
use Rattle.lists.specs.Wire.{all_below}
use Rattle.lists.specs.declared.Span.{Span}
use Rattle.parameters.specs.Sequence.{Field, bytes_in}
use Rattle.parameters.specs.Reading.{read_parameters}
use Rattle.parameters.specs.Writing.{Content, content_of, content_bytes, contents_in, contents_of, sequence_bytes, carrying, parameters_to_write}
use Rattle.parameters.specs.Laws.{Writable, shortest_form, shortest_from, in_shortest_form}
use Rattle.parameters.proofs.Carrying.{carrying-same, found-value, our_value}
use Rattle.parameters.proofs.Contents.{contents-written, shortest-written}
use Rattle.parameters.proofs.Fields.{Walked, Walked.ended, Walked.stepped, field-least, field-shortest, field_of, walked}
use Rattle.parameters.proofs.Kept.{Kept, Fits, kept-contents, read_kept, write-answers}
use Rattle.parameters.proofs.Written.{held_of, once-of, writable}

-- From a place on, the shortest form takes no more bytes than there are
shorter-from : {s : List ℕ} {at : ℕ} {fs : List Field} → Walked s at fs → at ≤ length s
    → at + length (sequence_bytes (contents_in s fs)) ≤ length s
unfolding contents_in sequence_bytes
shorter-from (ended h) within = omega arith
shorter-from {s} (stepped {fs = fs} p w) within =
    let rest = shorter-from w p.within in
    let long = length-append (content_bytes (content_of s (field_of p))) (sequence_bytes (contents_in s fs)) in
    omega (arith, long, field-least p)

-- From a place on, what is in shortest form is its own shortest form
same_from : {s : List ℕ} {at : ℕ} {fs : List Field} → Walked s at fs → shortest_from at fs ≡ true
    → sequence_bytes (contents_in s fs) ≡ drop at s
unfolding contents_in sequence_bytes shortest_from
same_from {s} (ended h) e = sym (drop_of_length-le s h)
same_from {s} (stepped {at = at} {fs = fs} p w) e =
    let f : Field = field_of p in
    let n : ℕ = at + shortest_width f.id + shortest_width (f.value.end - f.value.start) in
    let here = both_true (eqb f.value.start n) (shortest_from f.value.end fs) e in
    rw (same_from w here.1) (field-shortest p (eqb-true f.value.start n here.0))

-- Fields say as many parameters as they are
length-contents : (s : List ℕ) (fs : List Field) → length (contents_in s fs) ≡ length fs
unfolding contents_in
length-contents s [] = refl
length-contents s (f ∷ fs) = omega (arith, length-contents s fs)

-- A sequence that is read
module _ (s : List ℕ) (below : all_below 256 s ≡ true) (found : Option Span) (e : read_parameters s ≡ answered found) where
  -- it keeps the rules
  kept : Kept s
  kept = (read_kept s found e).0

  -- its fields are a walk to its end
  walk : Walked s 0 kept.fields
  walk = walked s below kept.fields kept.read

  -- The shortest form of a sequence that is read is not longer than it
  pub shortest-shorter : length (shortest_form s) ≤ length s
  shortest-shorter = let h = shorter-from walk (omega arith) in rw (kept-contents kept) (omega (arith, h))

  -- A sequence that is read and is in shortest form already is its own shortest form
  pub shortest-same : in_shortest_form s ≡ true → shortest_form s ≡ s
  shortest-same h = rw (kept-contents kept) (same_from walk (rw kept.read at h))

  -- Its parameters fit wherever their shortest form does
  fits_in : (room : ℕ) → length (shortest_form s) ≤ room → Fits (contents_of s) room
  fits_in room h = record {
    short = omega (arith, shortest-shorter, kept.short);
    fits = h;
    few = rw (kept-contents kept, length-contents s kept.fields) kept.few;
  }

  -- each of its identifiers and lengths can be written
  can_write : Writable (contents_of s)
  can_write = writable (contents_of s) (held_of kept below) (omega (arith, shortest-shorter, kept.short))

  -- The shortest form is one of the same sequence: it says the same
  pub shortest-says : contents_of (shortest_form s) ≡ contents_of s
  shortest-says = contents-written (contents_of s) can_write

  -- and it is in shortest form
  pub shortest-is : in_shortest_form (shortest_form s) ≡ true
  shortest-is = shortest-written (contents_of s) can_write

-- A sequence in which our value is found
module _ (s : List ℕ) (below : all_below 256 s ≡ true) (place : Span) (e : read_parameters s ≡ answered (Some place)) where
  -- What it says carries that value already
  carries-found : carrying (bytes_in s place) (contents_of s) ≡ contents_of s
  carries-found =
      let read = read_kept s (Some place) e in
      let k = read.0 in
      let value = ap our_value (kept-contents k) ∙ found-value s k.fields place read.1 in
      carrying-same (bytes_in s place) (contents_of s) value (once-of k)

  -- Read, and written again with the value that was found, a sequence has its shortest form
  pub rewritten : (room : ℕ) → length (shortest_form s) ≤ room
      → parameters_to_write s (bytes_in s place) room ≡ answered (shortest_form s)
  rewritten room h =
      let fits = fits_in s below (Some place) e room h in
      write-answers s (bytes_in s place) room (kept s below (Some place) e) (rw carries-found fits)
      ∙ ap (λ (ps : List Content). answered (sequence_bytes ps)) carries-found

  -- and where it was in shortest form already, the same bytes
  pub rewritten-same : (room : ℕ) → in_shortest_form s ≡ true → length s ≤ room
      → parameters_to_write s (bytes_in s place) room ≡ answered s
  rewritten-same room short h =
      let same = shortest-same s below (Some place) e short in
      rewritten room (rw same h) ∙ ap answered same
