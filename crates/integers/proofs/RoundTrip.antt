-- An integer that is written in any of the four widths is read back, with the width that it was written in: one theorem
-- over all of them (`read_back`). And the steps of the loops that read and write.
use Prim.Native.Nat.{ℕ, zero, suc, ◌+◌, ◌-◌, ◌*◌, ◌/◌, ◌%◌, ◌^◌, ◌<◌, ◌≤◌}
use mathlib.Core.Bool.{Bool, true, false}
use mathlib.Core.List.{List, [], ◌∷◌, ◌++◌}
use mathlib.Core.Path.{◌≡◌, refl, sym, ap, ◌∙◌, subst}
use native.Mathlib.Decide.{le_ind}
use native.Mathlib.Nat.{pow-suc, div-div-eq-div-mul, div-add-mod', div-one, div-lt_iff_lt-mul, mul-pos, le_refl, le_trans, le_of_lt, le_of_suc-le-suc, mul_assoc}
use native.Mathlib.Omega.{arith}
use borrow.Author.Tests.{le-ltb, ltb-false}
use lib.Dec.{lit<, ltb}
use lib.ListN.{length, take, get_or, set, length-append}
use lib.Pow.{pow_pos, pow_mono}
use lib.Seq.{take_at, take-suc, append_snoc, set_at, length-take-le}
use Rattle.refusals.specs.Reply.{Reply.answered}
use Rattle.refusals.specs.Rule.{Rule.◌when◌, judged}
use Rattle.refusals.specs.declared.Call.TheVariants.{Reading}
use Rattle.refusals.proofs.Rules.{answered-injective, refused-not-answered}
use Rattle.integers.specs.Integers.{Found, from_bytes, value_at, read_integer, low_bytes, integer_bytes, width_at, width_of, held_below}

length-low : (n v : ℕ) → length (low_bytes n v) ≡ n
unfolding low_bytes
length-low zero v = refl
length-low (suc n) v = ap suc (length-low n v)

-- A high part and the low bytes make the number
from_low : (n v : ℕ) → from_bytes (v / 256 ^ n) (low_bytes n v) ≡ v
unfolding from_bytes low_bytes
from_low zero v = div-one v
from_low (suc n) v =
    let q : v / 256 ^ suc n ≡ v / 256 ^ n / 256 = ap (λ (x : ℕ). v / x) (pow-suc 256 n) ∙ sym (div-div-eq-div-mul v (256 ^ n) 256) in
    ap (λ (x : ℕ). from_bytes (x * 256 + v / 256 ^ n % 256) (low_bytes n v)) q
    ∙ ap (λ (x : ℕ). from_bytes x (low_bytes n v)) (div-add-mod' (v / 256 ^ n) 256)
    ∙ from_low n v

-- The first byte: the form in its two highest bits, and the rest
pub top-bits : (form q : ℕ) → q < 64 → ((form * 64 + q) / 64 ≡ form) × ((form * 64 + q) % 64 ≡ q)
top-bits form q h = omega arith

pub pos-256 : (n : ℕ) → 0 < 256 ^ n
pos-256 zero = lit< tt
pos-256 (suc n) = subst (λ (x : ℕ). 0 < x) (sym (pow-suc 256 n)) (mul-pos (pos-256 n) (lit< tt))

pub one-le-width : (form : ℕ) → 1 ≤ width_of form
unfolding width_of
one-le-width form = pow_pos form

pub width-top : (form : ℕ) → form < 4 → width_of form ≤ 8
unfolding width_of
width-top form h = pow_mono (le_of_suc-le-suc h)

-- What a form holds has no more than 6 bits above its low bytes
pub small_top : (form v : ℕ) → v < held_below form → v / 256 ^ (width_of form - 1) < 64
unfolding held_below
small_top form v h = (div-lt_iff_lt-mul (pos-256 (width_of form - 1))).1 h

pub length-integer : (form v : ℕ) → length (integer_bytes form v) ≡ width_of form
unfolding integer_bytes
length-integer form v =
    let one = one-le-width form in
    let e : suc (width_of form - 1) ≡ width_of form = omega (arith, one) in
    ap suc (length-low (width_of form - 1) v) ∙ e

value-back : (n form v : ℕ) (rest : List ℕ) → v / 256 ^ n < 64
    → value_at ((form * 64 + v / 256 ^ n) ∷ (low_bytes n v ++ rest)) (suc n) ≡ v
unfolding value_at
value-back n form v rest h =
    rw ((top-bits form (v / 256 ^ n) h).1, take_at (low_bytes n v) rest n (length-low n v), from_low n v) refl

-- An integer that a form holds, written in the form's width, is read back with that width, whatever follows
pub read_back : (form v : ℕ) (rest : List ℕ) → v < held_below form
    → read_integer (integer_bytes form v ++ rest) ≡ answered (record { value = v; width = width_of form })
unfolding read_integer integer_bytes
read_back form v rest h =
    let n : ℕ = width_of form - 1 in
    let q : ℕ = v / 256 ^ n in
    let small : q < 64 = small_top form v h in
    let s : List ℕ = integer_bytes form v ++ rest in
    let one = one-le-width form in
    let long : length s ≡ width_of form + length rest =
    length-append (integer_bytes form v) rest ∙ ap (λ (x : ℕ). x + length rest) (length-integer form v) in
    let fits : width_of form ≤ length s = omega (arith, long) in
    let w : width_of form ≡ suc n = omega (arith, one) in
    let value : value_at s (width_of form) ≡ v = ap (value_at s) w ∙ value-back n form v rest small in
    rw ((top-bits form q small).0, le-ltb (length s) (width_of form) fits, value) refl

-- The reader's loop: so many bytes of an integer make a number below this
abbrev pub bound : ℕ → ℕ
bound i = 64 * 256 ^ (i - 1)

mono-256 : (i j : ℕ) → i ≤ j → 256 ^ i ≤ 256 ^ j
mono-256 i j h =
    le_ind (λ (m : ℕ). 256 ^ i ≤ 256 ^ m) (le_refl (256 ^ i))
    (λ m k e. le_trans e (subst (λ (x : ℕ). 256 ^ m ≤ x) (sym (pow-suc 256 m)) (more (256 ^ m)))) j h
  where
    more : (x : ℕ) → x ≤ x * 256
    more x = omega arith

pub bound-top : (i : ℕ) → i ≤ 8 → bound i ≤ 2 ^ 62
bound-top i h = let m : 256 ^ (i - 1) ≤ 256 ^ 7 = mono-256 (i - 1) 7 (omega arith) in omega (arith, m)

pub bound-step : (i : ℕ) → 1 ≤ i → bound (i + 1) ≡ bound i * 256
bound-step i h =
    let e : i + 1 - 1 ≡ suc (i - 1) = omega arith in
    ap (λ (x : ℕ). 64 * 256 ^ x) e ∙ ap (λ (x : ℕ). 64 * x) (pow-suc 256 (i - 1)) ∙ sym (mul_assoc 64 (256 ^ (i - 1)) 256)

-- The writer's loop: one more byte in front of what is written
pub push-low : (b : List ℕ) (i : ℕ) (x : ℕ) (tail : List ℕ) → 1 ≤ i → i ≤ length b
    → set (take i b ++ tail) (i - 1) x ≡ take (i - 1) b ++ (x ∷ tail)
push-low b i x tail one h =
    let j : ℕ = i - 1 in
    let e : i ≡ suc j = omega (arith, one) in
    let below : j < length b = omega (arith, one) in
    ap (λ (l : List ℕ). set (l ++ tail) j x) (ap (λ (n : ℕ). take n b) e ∙ take-suc b j 0 below)
    ∙ ap (λ (l : List ℕ). set l j x) (append_snoc (take j b) (get_or b j 0) tail)
    ∙ set_at (take j b) (get_or b j 0) tail x j (length-take-le j b (le_of_lt below))

pub low_step : (w i v : ℕ) → 1 ≤ i → i ≤ w → low_bytes (w - (i - 1)) v ≡ (v / 256 ^ (w - i) % 256) ∷ low_bytes (w - i) v
unfolding low_bytes
low_step w i v one h =
    let e : w - (i - 1) ≡ suc (w - i) = omega arith in
    ap (λ (n : ℕ). low_bytes n v) e

pub rest-step : (w i v : ℕ) → 1 ≤ i → i ≤ w → v / 256 ^ (w - i) / 256 ≡ v / 256 ^ (w - (i - 1))
rest-step w i v one h =
    let e : suc (w - i) ≡ w - (i - 1) = omega arith in
    div-div-eq-div-mul v (256 ^ (w - i)) 256
    ∙ ap (λ (x : ℕ). v / x) (sym (pow-suc 256 (w - i)) ∙ ap (λ (n : ℕ). 256 ^ n) e)

-- What is read lies within the bytes, and takes one of them at least
pub read-within : (bytes : List ℕ) (f : Found) → read_integer bytes ≡ answered f → (1 ≤ f.width) × (f.width ≤ length bytes)
unfolding read_integer
read-within bytes f e = go (ltb (length bytes) (width_at bytes)) (ltb-false (length bytes) (width_at bytes)) e
  where
    found : Found
    found = record { value = value_at bytes (width_at bytes); width = width_at bytes }

    go : (b : Bool) → (b ≡ false → width_at bytes ≤ length bytes) → judged Reading ((81 when b) ∷ []) (answered found) ≡ answered f
        → (1 ≤ f.width) × (f.width ≤ length bytes)
    go true h e = absurd (refused-not-answered 81 Reading f e)
    go false h e =
        let w : width_at bytes ≡ f.width = ap (λ (x : Found). x.width) (answered-injective found f e) in
        (subst (λ (x : ℕ). 1 ≤ x) w (one-le-width _), subst (λ (x : ℕ). x ≤ length bytes) w (h refl))

-- What the reader's steps follow from
pub ruleset reading = (one-le-width, width-top)
