-- What a parameter that is read is made of, where it lies, and that further turns of a walk change nothing.
use Prim.Native.Nat.{ℕ, zero, suc, ◌+◌, ◌-◌, ◌<◌, ◌≤◌}
use mathlib.Core.Bool.{Bool, true, false}
use mathlib.Core.List.{List, [], ◌∷◌}
use mathlib.Core.Path.{◌≡◌, refl, sym, ap, ◌∙◌, subst}
use native.Mathlib.Decide.{dec_lt}
use native.Mathlib.Omega.{arith}
use borrow.Author.Tests.{le-leb, lt-leb, ltb-false}
use lib.Dec.{ltb}
use lib.ListN.{length, drop}
use Rattle.std.specs.Prelude.{Option}
use Rattle.refusals.specs.Close.{close_of}
use Rattle.refusals.specs.Reply.{Reply, Reply.refused, Reply.answered}
use Rattle.refusals.specs.Rule.{Rule.◌when◌, judged}
use Rattle.refusals.specs.declared.Call.TheVariants.{Reading}
use Rattle.refusals.proofs.Rules.{answered-injective}
use Rattle.integers.specs.Integers.{Found, read_integer}
use Rattle.integers.proofs.RoundTrip.{read-within}
use Rattle.parameters.specs.Sequence.{Field, behind_id, behind_length, field_at, fields_from, followed_by, then_from, with_id}

pub no_answer : {A : Type 0} (n : ℕ) (c : Option ℕ) (a : A) → refused n c ≡ answered a → ⊥
no_answer n c a e = let z : ◌≡◌ {A = ℕ} 0 1 = cc in omega arith

-- What a parameter that was read is made of: its identifier and its length as they were read, and its places
pub record Parts (s : List ℕ) (at : ℕ) (f : Field) : Type 0 where
  pub the-id : Found
  pub the-length : Found
  pub id-read : read_integer (drop at s) ≡ answered the-id
  pub length-read : read_integer (drop (at + the-id.width) s) ≡ answered the-length
  pub is : f ≡ record {
    id = the-id.value;
    value = record {
      start = at + the-id.width + the-length.width;
      end = at + the-id.width + the-length.width + the-length.value;
    };
  }
  pub ends : at + the-id.width + the-length.width + the-length.value ≤ length s

pub field-parts : (s : List ℕ) (at : ℕ) (f : Field) → field_at s at ≡ answered f → Parts s at f
unfolding field_at behind_id
field-parts s at f e = with_first (read_integer (drop at s)) refl e
  where
    with_value : (i l : Found) → read_integer (drop at s) ≡ answered i → read_integer (drop (at + i.width) s) ≡ answered l
        → (b : Bool) → (b ≡ false → at + i.width + l.width + l.value ≤ length s)
        → judged Reading ((81 when b) ∷ []) (answered (record {
          id = i.value;
          value = record { start = at + i.width + l.width; end = at + i.width + l.width + l.value };
        })) ≡ answered f → Parts s at f
    with_value i l p q true h e = absurd (no_answer 81 (close_of 81 Reading) f e)
    with_value i l p q false h e =
        record { the-id = i; the-length = l; id-read = p; length-read = q; is = sym (answered-injective _ f e); ends = h refl }

    with_second : (i : Found) → read_integer (drop at s) ≡ answered i
        → (r : Reply Found) → read_integer (drop (at + i.width) s) ≡ r
        → behind_length s i.value (at + i.width) r ≡ answered f → Parts s at f
    with_second i p (refused n c) q e = absurd (no_answer n c f e)
    with_second i p (answered l) q e =
        with_value i l p q (ltb (length s) (at + i.width + l.width + l.value)) (ltb-false _ _) e

    with_first : (r : Reply Found) → read_integer (drop at s) ≡ r → with_id s at r ≡ answered f → Parts s at f
    with_first (refused n c) p e = absurd (no_answer n c f e)
    with_first (answered i) p e = with_second i p (read_integer (drop (at + i.width) s)) refl e

-- A parameter takes two bytes or more, and lies within the sequence
pub record Inside (s : List ℕ) (at : ℕ) (f : Field) : Type 0 where
  pub begins : at + 2 ≤ f.value.start
  pub in_order : f.value.start ≤ f.value.end
  pub ends : f.value.end ≤ length s

pub field-inside : (s : List ℕ) (at : ℕ) (f : Field) → field_at s at ≡ answered f → Inside s at f
field-inside s at f e =
    let p = field-parts s at f e in
    let i = p.the-id in
    let l = p.the-length in
    let one = (read-within (drop at s) i p.id-read).0 in
    let two = (read-within (drop (at + i.width) s) l p.length-read).0 in
    let parts : Inside s at (record {
      id = i.value;
      value = record { start = at + i.width + l.width; end = at + i.width + l.width + l.value };
    }) = record {
      begins = omega (arith, one, two);
      in_order = omega arith;
      ends = p.ends;
    } in
    subst (Inside s at) (sym p.is) parts

at-the-end : (t : ℕ) (s : List ℕ) (at : ℕ) → length s ≤ at → fields_from t s at ≡ answered []
unfolding fields_from
at-the-end zero s at h = refl
at-the-end (suc t) s at h = rw (le-leb (length s) at h)

turn : (t : ℕ) (s : List ℕ) (at : ℕ) → at < length s → fields_from (suc t) s at ≡ then_from (fields_from t s) (field_at s at)
unfolding fields_from
turn t s at h = rw (lt-leb (length s) at h)

-- One turn for each byte that is left is enough: more of them change nothing
pub enough_turns : (s : List ℕ) (t u at : ℕ) → length s - at ≤ t → length s - at ≤ u → fields_from t s at ≡ fields_from u s at
unfolding fields_from
enough_turns s zero u at h k = sym (at-the-end u s at (omega (arith, h)))
enough_turns s (suc t) zero at h k = at-the-end (suc t) s at (omega (arith, k))
enough_turns s (suc t) (suc u) at h k = go (λ end. enough_turns s t u end) (dec_lt at (length s))
  where
    Same : Type 0
    Same = (end : ℕ) → length s - end ≤ t → length s - end ≤ u → fields_from t s end ≡ fields_from u s end

    next : Same → (r : Reply Field) → field_at s at ≡ r → at < length s → then_from (fields_from t s) r ≡ then_from (fields_from u s) r
    next same (refused n c) e l = refl
    next same (answered f) e l =
        let i = field-inside s at f e in
        let past : at + 2 ≤ f.value.end = omega (arith, i.begins, i.in_order) in
        ap (followed_by f) (same f.value.end (omega (arith, h, l, past)) (omega (arith, k, l, past)))

    go : Same → Dec (at < length s) → fields_from (suc t) s at ≡ fields_from (suc u) s at
    go same (yes l) = turn t s at l ∙ next same (field_at s at) refl l ∙ sym (turn u s at l)
    go same (no l) = at-the-end (suc t) s at (omega arith) ∙ sym (at-the-end (suc u) s at (omega arith))
