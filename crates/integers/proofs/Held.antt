-- What is read is an integer that can be written: bytes that are read are the bytes of what is read, in the form that they
-- tell, and that form holds it. The converse of `read_back`.
use Prim.Native.Nat.{ℕ, suc, ◌+◌, ◌-◌, ◌*◌, ◌/◌, ◌%◌, ◌^◌, ◌<◌, ◌≤◌}
use mathlib.Core.Bool.{true}
use mathlib.Core.List.{List, [], ◌∷◌, ◌++◌}
use mathlib.Core.Path.{◌≡◌, refl, sym, ap, ◌∙◌, subst}
use native.Mathlib.Nat.{pow-suc, div-div-eq-div-mul, div-one, div-lt_iff_lt-mul}
use native.Mathlib.Omega.{arith}
use borrow.Author.Tests.{ltb-false, not-true}
use lib.ListN.{length, take, drop, take-append-drop}
use lib.Pow.{pow-lt}
use lib.Seq.{length-take-le}
use Rattle.refusals.specs.Reply.{Reply.answered}
use Rattle.refusals.specs.declared.Call.TheVariants.{Reading}
use Rattle.refusals.proofs.Rules.{answer-given, both_true}
use Rattle.lists.specs.Wire.{all_below}
use Rattle.lists.proofs.Entries.{all_below-head, all_below-take}
use Rattle.integers.specs.Integers.{Found, from_bytes, value_at, read_integer, integer_rules, low_bytes, integer_bytes, width_of, held_below}
use Rattle.integers.specs.Integers.{shortest, shortest_width, shortest_bytes}
use Rattle.integers.specs.Limits.{max_integer}
use Rattle.integers.proofs.RoundTrip.{bound-top, one-le-width, pos-256, read-within, width-top}
use Rattle.integers.proofs.Least.{least-width}

-- Bytes that are put behind a number leave it as what stands above them
high-back : (a : ℕ) (bs : List ℕ) → all_below 256 bs ≡ true → from_bytes a bs / 256 ^ length bs ≡ a
unfolding from_bytes
high-back a [] below = div-one a
high-back a (b ∷ bs) below =
    let p = all_below-head 256 b bs below in
    let small : b < 256 = p.0 in
    let n : ℕ = length bs in
    let v : ℕ = from_bytes (a * 256 + b) bs in
    let q : (a * 256 + b) / 256 ≡ a = omega arith in
    ap (λ (x : ℕ). v / x) (pow-suc 256 n) ∙ sym (div-div-eq-div-mul v (256 ^ n) 256)
    ∙ ap (λ (x : ℕ). x / 256) (high-back (a * 256 + b) bs p.1) ∙ q

-- and are its low bytes
low-back : (a : ℕ) (bs : List ℕ) → all_below 256 bs ≡ true → low_bytes (length bs) (from_bytes a bs) ≡ bs
unfolding from_bytes low_bytes
low-back a [] below = refl
low-back a (b ∷ bs) below =
    let p = all_below-head 256 b bs below in
    let small : b < 256 = p.0 in
    let q : (a * 256 + b) % 256 ≡ b = omega arith in
    rw (high-back (a * 256 + b) bs p.1, q, low-back (a * 256 + b) bs p.1) refl

-- What is read at the front of bytes: the form that they tell holds it, and they begin with its bytes in that form
pub record Told (bytes : List ℕ) (f : Found) : Type 0 where
  pub form : ℕ
  pub width : f.width ≡ width_of form
  pub held : f.value < held_below form
  pub most : f.value ≤ max_integer
  pub front : bytes ≡ integer_bytes form f.value ++ drop f.width bytes

-- What one of the four forms holds is not over the limit
held-top : (form v : ℕ) → form < 4 → v < held_below form → v ≤ max_integer
unfolding held_below
held-top form v h k = let top = bound-top (width_of form) (width-top form h) in omega (arith, top)

-- The byte that tells the form, and the bytes behind it
module _ (b : ℕ) (bs : List ℕ) (small : b < 256) (below : all_below 256 bs ≡ true) (n : ℕ) (long : n ≡ length bs) where
  -- no more than 6 bits are above those bytes
  front-held : from_bytes (b % 64) bs < 64 * 256 ^ n
  front-held =
      let top : from_bytes (b % 64) bs / 256 ^ n ≡ b % 64 = rw long (high-back (b % 64) bs below) in
      (div-lt_iff_lt-mul (pos-256 n)).0 (rw top (omega arith))

  -- and both are what the writer makes of the number
  front_same : (b / 64 * 64 + from_bytes (b % 64) bs / 256 ^ n) ∷ low_bytes n (from_bytes (b % 64) bs) ≡ b ∷ bs
  front_same =
      let whole : b / 64 * 64 + b % 64 ≡ b = omega arith in
      rw (long, high-back (b % 64) bs below, low-back (b % 64) bs below, whole) refl

-- What the reader makes of bytes that are long enough
told-front : (b : ℕ) (rest : List ℕ) → all_below 256 (b ∷ rest) ≡ true → width_of (b / 64) ≤ suc (length rest)
    → Told (b ∷ rest) (record { value = value_at (b ∷ rest) (width_of (b / 64)); width = width_of (b / 64) })
unfolding value_at held_below integer_bytes
told-front b rest below fits =
    let p = all_below-head 256 b rest below in
    let small : b < 256 = p.0 in
    let one = one-le-width (b / 64) in
    let n : ℕ = width_of (b / 64) - 1 in
    let w : width_of (b / 64) ≡ suc n = omega (arith, one) in
    let bs : List ℕ = take n rest in
    let long : n ≡ length bs = sym (length-take-le n rest (omega arith)) in
    let below-bs = all_below-take 256 n rest p.1 in
    let value : drop 1 (take (width_of (b / 64)) (b ∷ rest)) ≡ bs = ap (λ (x : ℕ). drop 1 (take x (b ∷ rest))) w in
    let behind : drop (width_of (b / 64)) (b ∷ rest) ≡ drop n rest = ap (λ (x : ℕ). drop x (b ∷ rest)) w in
    let held : from_bytes (b % 64) bs < 64 * 256 ^ n = front-held b bs small below-bs n long in
    record {
      form = b / 64;
      width = refl;
      held = rw value held;
      most = rw value (held-top (b / 64) (from_bytes (b % 64) bs) (omega arith) held);
      front =
          rw (value, behind)
          (ap (λ (l : List ℕ). b ∷ l) (sym (take-append-drop n rest))
          ∙ ap (λ (l : List ℕ). l ++ drop n rest) (sym (front_same b bs small below-bs n long)));
    }

-- Bytes that are read begin with what is read, in a form that holds it
pub read_told : (bytes : List ℕ) (f : Found) → all_below 256 bytes ≡ true → read_integer bytes ≡ answered f → Told bytes f
unfolding read_integer
read_told [] f below e = absurd (omega (arith, read-within [] f e))
read_told (b ∷ rest) f below e =
    let found : Found = record { value = value_at (b ∷ rest) (width_of (b / 64)); width = width_of (b / 64) } in
    let p = answer-given Reading (integer_rules (b ∷ rest)) found f e in
    subst (Told (b ∷ rest)) p.1 (told-front b rest below (ltb-false _ _ (not-true _ (both_true _ _ p.0).0)))

-- What is read was not written in fewer bytes than the shortest form takes
pub told-least : {bytes : List ℕ} {f : Found} → Told bytes f → shortest_width f.value ≤ f.width
told-least t = rw t.width (least-width t.form _ t.held)

-- Forms of one width are one form
width-form : (a b : ℕ) → width_of a ≡ width_of b → a ≡ b
unfolding width_of
width-form a b e =
    let low : ¬ (a < b) = λ h. omega (arith, pow-lt h) in
    let high : ¬ (b < a) = λ h. omega (arith, pow-lt h) in
    omega arith

-- What was read in as many bytes as the shortest form takes was written in the shortest form
pub told-shortest : {bytes : List ℕ} {f : Found} → Told bytes f → f.width ≡ shortest_width f.value
    → bytes ≡ shortest_bytes f.value ++ drop f.width bytes
unfolding shortest_width shortest_bytes
told-shortest {f} t e =
    let same : t.form ≡ shortest f.value = width-form t.form (shortest f.value) (sym t.width ∙ e) in
    rw same at t.front
