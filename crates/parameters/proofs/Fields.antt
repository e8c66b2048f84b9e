-- The fields that are read in a sequence of bytes, one by one: the two integers of each, and how far it goes.
use Prim.Native.Nat.{ℕ, zero, suc, ◌+◌, ◌-◌, ◌^◌, ◌≤◌}
use mathlib.Core.Bool.{Bool, true, false, cond}
use mathlib.Core.List.{List, [], ◌∷◌, ◌++◌, append_assoc}
use mathlib.Core.Path.{◌≡◌, refl, sym, ap, ◌∙◌, subst}
use native.Mathlib.Omega.{arith}
use borrow.Author.Tests.{leb-true}
use lib.Dec.{leb}
use lib.ListN.{length, drop, length-append, length-drop, length-take, take-append-drop}
use lib.Seq.{drop-drop}
use Rattle.refusals.specs.Reply.{Reply, Reply.refused, Reply.answered}
use Rattle.refusals.proofs.Rules.{answered-injective}
use Rattle.integers.specs.Integers.{Found, shortest_bytes, shortest_width}
use Rattle.integers.proofs.Held.{Told, read_told, told-least, told-shortest}
use Rattle.integers.proofs.Least.{length-shortest}
use Rattle.integers.proofs.RoundTrip.{read-within}
use Rattle.lists.specs.Wire.{all_below}
use Rattle.lists.proofs.Entries.{all_below-cons, all_below-drop}
use Rattle.parameters.specs.Sequence.{Field, bytes_in, field_at}
use Rattle.parameters.specs.Sequence.{followed_by, then_from, fields_from, fields_of, ids_of}
use Rattle.parameters.specs.Writing.{content_of, content_bytes}
use Rattle.parameters.proofs.Walk.{field-parts, no_answer}

-- A parameter that is read in bytes at a place: what its identifier tells, and behind that its length; its value is in the
-- sequence
pub record Read (s : List ℕ) (at : ℕ) : Type 0 where
  pub id : Found
  pub size : Found
  pub id-told : Told (drop at s) id
  pub size-told : Told (drop (at + id.width) s) size
  pub one : 1 ≤ id.width
  pub within : at + id.width + size.width + size.value ≤ length s

-- The field that they tell
abbrev pub field_of : {s : List ℕ} {at : ℕ} → Read s at → Field
field_of {at} p =
    let start : ℕ = at + p.id.width + p.size.width in
    record { id = p.id.value; value = record { start = start; end = start + p.size.value } }

-- The fields from a place to the end of a sequence
pub data Walked (s : List ℕ) : ℕ → List Field → Type 0 where
  ended : {at : ℕ} → length s ≤ at → Walked s at []
  stepped : {at : ℕ} {fs : List Field} (p : Read s at) → Walked s (field_of p).value.end fs → Walked s at (field_of p ∷ fs)

module _ (s : List ℕ) (below : all_below 256 s ≡ true) where
  -- A field that is read is told by its parts
  field_told : (at : ℕ) (f : Field) → field_at s at ≡ answered f → (p : Read s at) × (field_of p ≡ f)
  field_told at f e =
      let p = field-parts s at f e in
      let i = p.the-id in
      let l = p.the-length in (
        record {
          id = i;
          size = l;
          id-told = read_told (drop at s) i (all_below-drop 256 at s below) p.id-read;
          size-told = read_told (drop (at + i.width) s) l (all_below-drop 256 (at + i.width) s below) p.length-read;
          one = (read-within (drop at s) i p.id-read).0;
          within = p.ends;
        },
        sym p.is,
      )

  -- One turn at a place, where what is read in the turns after it is a walk
  turn : (turns at : ℕ) (fs : List Field) → length s ≤ at + suc turns
      → ((next : ℕ) (rest : List Field) → length s ≤ next + turns → fields_from turns s next ≡ answered rest → Walked s next rest)
      → fields_from (suc turns) s at ≡ answered fs → Walked s at fs
  unfolding fields_from
  turn turns at fs h after e = test (leb (length s) at) (leb-true _ _) e
    where
      walks : (rest : List Field) → Walked s at rest → answered rest ≡ answered fs → Walked s at fs
      walks rest w e = subst (Walked s at) (answered-injective rest fs e) w

      behind : (p : Read s at) (r : Reply (List Field)) → fields_from turns s (field_of p).value.end ≡ r
          → followed_by (field_of p) r ≡ answered fs → Walked s at fs
      behind p (refused n c) k e = absurd (no_answer n c fs e)
      behind p (answered rest) k e =
          walks (field_of p ∷ rest) (stepped p (after (field_of p).value.end rest (omega (arith, p.one)) k)) e

      field : (r : Reply Field) → field_at s at ≡ r → then_from (fields_from turns s) r ≡ answered fs → Walked s at fs
      field (refused n c) k e = absurd (no_answer n c fs e)
      field (answered f) k e =
          let q = field_told at f k in
          behind q.0 (fields_from turns s (field_of q.0).value.end) refl
          (subst (λ (x : Field). followed_by x (fields_from turns s x.value.end) ≡ answered fs) (sym q.1) e)

      test : (b : Bool) → (b ≡ true → length s ≤ at)
          → cond b (answered []) (then_from (fields_from turns s) (field_at s at)) ≡ answered fs → Walked s at fs
      test true k e = walks [] (ended (k refl)) e
      test false k e = field (field_at s at) refl e

  -- What is read in enough turns is a walk to the end
  walked_from : (turns at : ℕ) (fs : List Field) → length s ≤ at + turns → fields_from turns s at ≡ answered fs → Walked s at fs
  unfolding fields_from
  walked_from zero at fs h e = subst (Walked s at) (answered-injective [] fs e) (ended (omega arith))
  walked_from (suc turns) at fs h e = turn turns at fs h (walked_from turns) e

  -- All fields of a sequence that is read are such a walk
  pub walked : (fs : List Field) → fields_of s ≡ answered fs → Walked s 0 fs
  unfolding fields_of
  walked fs e = walked_from (length s) 0 fs (omega arith) e

-- Identifiers that are read can be written
pub ids-held : {s : List ℕ} {at : ℕ} {fs : List Field} → Walked s at fs → all_below (2 ^ 62) (ids_of fs) ≡ true
unfolding ids_of all_below
ids-held (ended h) = refl
ids-held (stepped {fs = fs} p w) =
    all_below-cons (2 ^ 62) p.id.value (ids_of fs) (omega (arith, p.id-told.most)) (ids-held w)

-- An integer that was read in its shortest width, and what lies behind it
shortest-front : (s : List ℕ) (at : ℕ) (f : Found) → Told (drop at s) f → f.width ≡ shortest_width f.value
    → drop at s ≡ shortest_bytes f.value ++ drop (at + f.width) s
shortest-front s at f told e = told-shortest told e ∙ ap (λ (l : List ℕ). shortest_bytes f.value ++ l) (drop-drop f.width at s)

-- A parameter that was read
module _ {s : List ℕ} {at : ℕ} (p : Read s at) where
  -- Its value has as many bytes as its length tells
  value-length : length (bytes_in s (field_of p).value) ≡ p.size.value
  value-length = simp (length-take, length-drop) (omega (arith, p.within))

  -- In the shortest form it does not reach further
  pub field-least : at + length (content_bytes (content_of s (field_of p))) ≤ (field_of p).value.end
  field-least =
      let id-least = told-least p.id-told in
      let size-least = told-least p.size-told in
      simp (length-append, length-shortest, value-length) (omega arith)

  -- Where its value begins as in the shortest form, it is in the shortest form
  pub field-shortest : (field_of p).value.start ≡ at + shortest_width (field_of p).id + shortest_width ((field_of p).value.end - (field_of p).value.start)
      → content_bytes (content_of s (field_of p)) ++ drop (field_of p).value.end s ≡ drop at s
  field-shortest begins =
      let start : ℕ = (field_of p).value.start in
      let end : ℕ = (field_of p).value.end in
      let n : end - start ≡ p.size.value = omega arith in
      let begins-so = rw n at begins in
      let id-least = told-least p.id-told in
      let size-least = told-least p.size-told in
      let id-front = shortest-front s at p.id p.id-told (omega arith) in
      let size-front = shortest-front s (at + p.id.width) p.size p.size-told (omega arith) in
      let whole : start + (end - start) ≡ end = omega arith in
      let behind = drop-drop (end - start) start s ∙ ap (λ (x : ℕ). drop x s) whole in
      let value-front : bytes_in s (field_of p).value ++ drop end s ≡ drop start s =
      ap (λ (l : List ℕ). bytes_in s (field_of p).value ++ l) (sym behind) ∙ take-append-drop (end - start) (drop start s) in
      simp (append_assoc, value-front, value-length) (rw (id-front, size-front) refl)
