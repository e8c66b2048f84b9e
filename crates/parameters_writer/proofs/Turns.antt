-- The two walks over the old sequence, the one that measures and the one that writes: what each holds at a place, and a turn.
use Prim.Native.Nat.{ℕ, ◌+◌, ◌*◌, ◌<◌, ◌≤◌, zero-le}
use mathlib.Core.List.{List, [], ◌∷◌, ◌++◌, append-nil, append_assoc}
use mathlib.Core.Path.{◌≡◌, refl, sym, ap, ap₂, ◌∙◌}
use native.Mathlib.Nat.{le_trans}
use native.Mathlib.Omega.{arith}
use lib.ListN.{get_or, length, length-append}
use Rattle.refusals.specs.Reply.{Reply.answered}
use Rattle.refusals.specs.Written.{leaves}
use Rattle.integers.proofs.Least.{shortest-width-top}
use Rattle.lists.proofs.Places.{part_from, put_from}
use Rattle.parameters.specs.Limits.{max_sequence}
use Rattle.parameters.specs.Items.{items_left}
use Rattle.parameters.specs.Sequence.{Field}
use Rattle.parameters.specs.Writing.{contents_in, renewed, sequence_bytes}
use Rattle.parameters.proofs.Walk.{Inside, field-inside}
use Rattle.parameters.proofs.Bytes.{field-sized}
use Rattle.parameters.proofs.Items.{Here, items_here}
use Rattle.parameters_writer.specs.Renewing.{CanBeWritten, max_one, new_bytes, renewed_bytes}
use Rattle.parameters_writer.proofs.Contents.{bytes-snoc, length-short, new_length, new-size, passed-within}
use Rattle.parameters_writer.proofs.Runs.{Begins, begins-more, begins-none}

-- The size of those passed. They take no more than so many bytes in the new sequence for each byte of the old one.
pub record Measured (s v : List ℕ) (rest : List Field) (bytes count : ℕ) : Type 0 where
  pub passed : List Field
  pub whole : passed ++ rest ≡ items_left s 0
  pub at : ℕ
  pub left : rest ≡ items_left s at
  pub inside : at ≤ length s
  pub few : count ≤ at
  pub takes : bytes ≡ length (renewed_bytes s v passed)
  pub counts : count ≡ length passed
  pub fits : bytes ≤ at * max_one

pub measured-none : (s v : List ℕ) → Measured s v (items_left s 0) 0 0
unfolding contents_in renewed sequence_bytes
measured-none s v = record {
  passed = [];
  whole = refl;
  at = 0;
  left = refl;
  inside = zero-le;
  few = zero-le;
  takes = refl;
  counts = refl;
  fits = zero-le;
}

-- The next one was read where the last one ends
pub measured-here : {s v : List ℕ} {f : Field} {rest : List Field} {bytes count : ℕ} (m : Measured s v (f ∷ rest) bytes count) → Inside s m.at f
measured-here {s} {v} {f} {rest} m = field-inside s m.at f (items_here s m.at f rest (sym m.left)).read

pub measured-next : (s v : List ℕ) (f : Field) (rest : List Field) (bytes count n : ℕ) → length s ≤ max_sequence → length v ≤ max_sequence
    → Measured s v (f ∷ rest) bytes count → n ≡ length (new_bytes s v f) → Measured s v rest (bytes + n) (count + 1)
measured-next s v f rest bytes count n old-short value-short m is =
    let passed = m.passed in
    let inside = measured-here m in
    let size = new-size s v f inside.in_order inside.ends in
    let short = length-short s v f value-short old-short inside.ends in
    record {
      passed = passed ++ (f ∷ []);
      whole = append_assoc passed (f ∷ []) rest ∙ m.whole;
      at = f.value.end;
      left = (items_here s m.at f rest (sym m.left)).behind;
      inside = inside.ends;
      few = omega (arith, m.few, inside.begins, inside.in_order);
      takes =
          ap₂ (λ (a b : ℕ). a + b) m.takes is ∙ sym (length-append (renewed_bytes s v passed) (new_bytes s v f))
          ∙ sym (ap length (bytes-snoc s v passed f));
      counts = ap (λ (k : ℕ). k + 1) m.counts ∙ sym (length-append passed (f ∷ []));
      fits = omega (arith, m.fits, is, size, short, shortest-width-top f.id, shortest-width-top (new_length v f), inside.begins, inside.in_order);
    }

-- At the end all are measured, and they are few
pub measured-all : {s v : List ℕ} {bytes count : ℕ} → length s ≤ max_sequence → Measured s v [] bytes count
    → (bytes ≡ length (renewed_bytes s v (items_left s 0)))
    × ((count ≡ length (items_left s 0)) × ((bytes ≤ max_sequence * max_one) × (count ≤ max_sequence)))
measured-all short m =
    let all = sym m.whole ∙ append-nil m.passed in
    rw all (m.takes, (m.counts, (omega (arith, m.fits, m.inside, short), omega (arith, m.few, m.inside, short))))

-- Those passed are put at the buffer's front
pub record Renewing (s v found : List ℕ) (rest : List Field) (buffer : List ℕ) (count : ℕ) : Type 0 where
  pub passed : List Field
  pub whole : passed ++ rest ≡ items_left s 0
  pub at : ℕ
  pub left : rest ≡ items_left s at
  pub begins : Begins found (renewed_bytes s v passed) buffer count

pub renewing-none : (s v found : List ℕ) → Renewing s v found (items_left s 0) found 0
unfolding contents_in renewed sequence_bytes
renewing-none s v found = record { passed = []; whole = refl; at = 0; left = refl; begins = begins-none found }

-- At the end all are put
pub renewing-all : {s v found buffer : List ℕ} {count : ℕ} → Renewing s v found [] buffer count
    → Begins found (renewed_bytes s v (items_left s 0)) buffer count
renewing-all r = rw (sym r.whole ∙ append-nil r.passed) r.begins

-- Where the buffer has room for all of them
module _ (s v found : List ℕ) (f : Field) (rest : List Field) (buffer : List ℕ) (count : ℕ)
    (fits : length (renewed_bytes s v (items_left s 0)) ≤ length found) (r : Renewing s v found (f ∷ rest) buffer count) where
  renewing-here : Here s r.at f rest
  renewing-here = items_here s r.at f rest (sym r.left)

  on : (r.passed ++ (f ∷ [])) ++ rest ≡ items_left s 0
  on = append_assoc r.passed (f ∷ []) rest ∙ r.whole

  -- The next can be written
  pub renewing-written : ((i : ℕ) → get_or s i 0 < 256) → CanBeWritten s f
  renewing-written below =
      let inside = field-inside s r.at f renewing-here.read in
      record { small = (field-sized s r.at f below renewing-here.read).can-be-written; in_order = inside.in_order; ends = inside.ends }

  -- The rest has room for it
  pub next-room : length (renewed_bytes s v r.passed ++ new_bytes s v f) ≤ length found
  next-room =
      rw (← bytes-snoc s v r.passed f) (le_trans (passed-within s v (items_left s 0) (r.passed ++ (f ∷ [])) rest on) fits)

  pub renewing-next : (part : List ℕ) (n : ℕ) → n ≡ length (new_bytes s v f) → part ≡ leaves (answered (new_bytes s v f)) (part_from count buffer)
      → Renewing s v found rest (put_from count buffer part) (count + n)
  renewing-next part n is p = record {
    passed = r.passed ++ (f ∷ []);
    whole = on;
    at = f.value.end;
    left = renewing-here.behind;
    begins =
        rw (bytes-snoc s v r.passed f)
        (begins-more found (renewed_bytes s v r.passed) buffer count r.begins (new_bytes s v f) part n is p);
  }
