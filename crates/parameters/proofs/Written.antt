-- The laws of the writer: what is written is read, with our value and with all that the old sequence said beside it, and
-- writing the same value once more gives the same bytes.
use Prim.Native.Nat.{ℕ, ◌^◌, ◌≤◌}
use mathlib.Core.Bool.{true, false}
use mathlib.Core.List.{List, [], ◌∷◌}
use mathlib.Core.Path.{◌≡◌, refl, sym, ap, ◌∙◌, subst}
use native.Mathlib.Omega.{arith}
use lib.ListN.{length}
use Rattle.refusals.specs.Reply.{Reply, Reply.answered}
use Rattle.lists.specs.Wire.{all_below}
use Rattle.lists.proofs.Entries.{all_below-head}
use Rattle.parameters.specs.Limits.{max_sequence}
use Rattle.parameters.specs.Sequence.{Field, ids_of, repeats}
use Rattle.parameters.specs.Reading.{fields_in}
use Rattle.parameters.specs.Writing.{Content, contents_of, sequence_bytes, carrying, parameters_to_write}
use Rattle.parameters.specs.Laws.{Carries, Writable, identifiers, in_shortest_form, others, placed, placed_at, with_ours}
use Rattle.parameters.proofs.Carrying.{ids_in, ids-contents, ids-placed, ids-carrying, once-carrying, held-carrying}
use Rattle.parameters.proofs.Carrying.{our_value, value-carrying, value_found, others-carrying, carrying-same}
use Rattle.parameters.proofs.Contents.{fields-written, contents-written, sequence-length, shortest-written}
use Rattle.parameters.proofs.Fields.{ids-held, walked}
use Rattle.parameters.proofs.Kept.{Kept, Fits, kept-contents, read-answers, write_kept, write-answers}

-- The identifiers of what a sequence says that keeps the rules
module _ {s : List ℕ} (k : Kept s) where
  ids-of : ids_in (contents_of s) ≡ ids_of k.fields
  ids-of = ap ids_in (kept-contents k) ∙ ids-contents s k.fields

  -- they are those that the reader reads
  identifiers-of : identifiers s ≡ ids_in (contents_of s)
  identifiers-of = ap (λ (r : Reply (List Field)). ids_of (fields_in r)) k.read ∙ sym ids-of

  -- none occurs twice
  pub once-of : repeats (ids_in (contents_of s)) ≡ false
  once-of = ap repeats ids-of ∙ k.once

  -- each can be written
  pub held_of : all_below 256 s ≡ true → all_below (2 ^ 62) (ids_in (contents_of s)) ≡ true
  held_of below = ap (all_below (2 ^ 62)) ids-of ∙ ids-held (walked s below k.fields k.read)

-- No length is over what can be written where the sequence is not
pub writable : (ps : List Content) → all_below (2 ^ 62) (ids_in ps) ≡ true → length (sequence_bytes ps) ≤ max_sequence → Writable ps
unfolding ids_in
writable [] held short = tt
writable (p ∷ ps) held short =
    let h = all_below-head (2 ^ 62) p.id (ids_in ps) held in
    let long = sequence-length p ps in
    (omega (arith, h.0), omega (arith, long), writable ps h.1 (omega (arith, long)))

-- As many lie there as were put
length-placed : (at : ℕ) (ps : List Content) → length (placed at ps) ≡ length ps
unfolding placed
length-placed at [] = refl
length-placed at (p ∷ ps) = omega (arith, length-placed (placed_at at p).value.end ps)

-- A sequence that keeps the reader's rules, and a value with which it can be written
module _ (old value : List ℕ) (room : ℕ) (below : all_below 256 old ≡ true)
    (k : Kept old) (f : Fits (carrying value (contents_of old)) room) where
  abbrev ps : List Content
  ps = carrying value (contents_of old)

  -- no identifier of the new sequence occurs twice
  once : repeats (ids_in ps) ≡ false
  once = once-carrying value (contents_of old) (once-of k)

  -- each of its identifiers and lengths can be written
  can_write : Writable ps
  can_write = writable ps (held-carrying value (contents_of old) (held_of k below)) f.short

  -- what is written says just that
  says : contents_of (sequence_bytes ps) ≡ ps
  says = contents-written ps can_write

  -- in shortest form
  shortest : in_shortest_form (sequence_bytes ps) ≡ true
  shortest = shortest-written ps can_write

  -- it keeps the reader's rules too
  new-kept : Kept (sequence_bytes ps)
  new-kept = record {
    fields = placed 0 ps;
    read = fields-written ps can_write;
    short = f.short;
    once = ap repeats (ids-placed 0 ps) ∙ once;
    few = rw (length-placed 0 ps) f.few;
  }

  -- our value is found in it
  new-carries : Carries (sequence_bytes ps) value
  new-carries =
      let has = ap our_value (sym (kept-contents new-kept) ∙ says) ∙ value-carrying value (contents_of old) in
      let found = value_found (sequence_bytes ps) new-kept.fields value has in
      record {
        place = found.0;
        reads = read-answers (sequence_bytes ps) new-kept ∙ ap answered found.1;
        same = found.2;
      }

  -- the same value changes nothing in it
  new-again : parameters_to_write (sequence_bytes ps) value room ≡ answered (sequence_bytes ps)
  new-again =
      let same : carrying value (contents_of (sequence_bytes ps)) ≡ ps =
      ap (carrying value) says ∙ carrying-same value ps (value-carrying value (contents_of old)) once in
      write-answers (sequence_bytes ps) value room new-kept (rw same f) ∙ ap (λ (l : List Content). answered (sequence_bytes l)) same

-- A sequence of bytes, and what is written with a value in it
module _ (old value : List ℕ) (room : ℕ) (new : List ℕ) (below : all_below 256 old ≡ true)
    (e : parameters_to_write old value room ≡ answered new) where
  -- What holds of the bytes that are to be written holds of what is written
  of-new : (P : List ℕ → Type 0)
      → ((k : Kept old) → Fits (carrying value (contents_of old)) room → P (sequence_bytes (carrying value (contents_of old)))) → P new
  of-new P all = let w = write_kept old value room new e in subst P w.2 (all w.0 w.1)

  -- What is written, the reader reads, and our value is found with the same bytes
  pub written_read : Carries new value
  written_read = of-new (λ (s : List ℕ). Carries s value) (new-carries old value room below)

  -- What is written says what the old sequence said, with our value in the place of the old one, or last
  pub contents-stay : contents_of new ≡ carrying value (contents_of old)
  contents-stay = of-new (λ (s : List ℕ). contents_of s ≡ carrying value (contents_of old)) (says old value room below)

  -- Every other parameter keeps its value, and they keep their order
  pub others-stay : others (contents_of new) ≡ others (contents_of old)
  others-stay = ap others contents-stay ∙ others-carrying value (contents_of old)

  -- The identifiers are those of the old sequence in their order, with ours added last where it was missing
  pub order-stays : identifiers new ≡ with_ours (identifiers old)
  order-stays =
      of-new (λ (s : List ℕ). identifiers s ≡ with_ours (identifiers old))
      (λ k f. identifiers-of (new-kept old value room below k f) ∙ ap ids_in (says old value room below k f)
      ∙ ids-carrying value (contents_of old) ∙ ap with_ours (sym (identifiers-of k)))

  -- Writing the same value into what was written gives the same bytes
  pub written-again : parameters_to_write new value room ≡ answered new
  written-again = of-new (λ (s : List ℕ). parameters_to_write s value room ≡ answered s) (new-again old value room below)

  -- Every identifier and every length of what is written is in the shortest form
  pub written-shortest : in_shortest_form new ≡ true
  written-shortest = of-new (λ (s : List ℕ). in_shortest_form s ≡ true) (shortest old value room below)
