-- The word of a set, bit by bit: what each bit says, how many are set, two words joined, and the walk that makes a
-- word. For the words of the record, of the server's choice and of a list.
use Prim.Native.Nat.{ℕ, zero, suc, ◌+◌, ◌*◌, ◌/◌, ◌%◌, ◌^◌, ◌≤◌, ◌<◌, max}
use mathlib.Core.Bool.{Bool, true, false, not, ◌&&◌, ◌||◌}
use mathlib.Core.List.{List, [], ◌∷◌}
use mathlib.Core.Path.{◌≡◌, refl, ap, ◌∙◌}
use native.Mathlib.Nat.{lt_of_lt_of_le, two-pow-succ}
use native.Mathlib.Omega.{arith}
use lib.Bits.{differ, bit_or, bit_xor, or_step, xor_step}
use lib.Count.{ones, ones_step}
use lib.Dec.{eqb, lit<}
use lib.ListN.{length, drop, get_or, length-drop}
use lib.Pow.{pow_mono}
use Rattle.versions.specs.Words.{bit_at, bit, keep_if, entries_where, word_where}
use Rattle.versions.proofs.Lists.{drop-next}

-- A bit and the bits above it

pub lowest-bit : (b : Bool) (w : ℕ) → (bit b + 2 * w) % 2 ≡ bit b
lowest-bit true w = omega arith
lowest-bit false w = omega arith

pub rest-bits : (b : Bool) (w : ℕ) → (bit b + 2 * w) / 2 ≡ w
rest-bits true w = omega arith
rest-bits false w = omega arith

pub bit-says : (b : Bool) → eqb (bit b) 1 ≡ b
bit-says true = refl
bit-says false = refl

-- The word of the entries that a test holds of

-- bit j tells whether it holds of entry j
pub bit-where : (f : ℕ → Bool) (ts : List ℕ) (j : ℕ) → j < length ts → bit_at (word_where f ts) j ≡ f (get_or ts j 0)
unfolding word_where
bit-where f [] j h = absurd (omega arith)
bit-where f (t ∷ ts) zero h = rw (lowest-bit (f t) (word_where f ts)) (bit-says (f t))
bit-where f (t ∷ ts) (suc j) h = rw (rest-bits (f t) (word_where f ts)) (bit-where f ts j (omega arith))

-- 0 has no bit set
pub bit-of-zero : (j : ℕ) → bit_at 0 j ≡ false
bit-of-zero zero = refl
bit-of-zero (suc j) = bit-of-zero j

-- and no bit is set at or past the table's length
pub bit_past : (f : ℕ → Bool) (ts : List ℕ) (j : ℕ) → length ts ≤ j → bit_at (word_where f ts) j ≡ false
unfolding word_where
bit_past f [] j h = bit-of-zero j
bit_past f (t ∷ ts) zero h = absurd (omega arith)
bit_past f (t ∷ ts) (suc j) h = rw (rest-bits (f t) (word_where f ts)) (bit_past f ts j (omega arith))

bit_below : (b : Bool) → bit b < 2
bit_below true = lit< tt
bit_below false = lit< tt

-- so as a number the word is below a power of 2
pub word_below : (f : ℕ → Bool) (ts : List ℕ) → word_where f ts < 2 ^ length ts
unfolding word_where
word_below f [] = lit< tt
word_below f (t ∷ ts) =
    let b = bit_below (f t) in
    let p = two-pow-succ (length ts) in
    omega (arith, word_below f ts, b, p)

-- tests that agree have one word
pub word_same : (f g : ℕ → Bool) → ((v : ℕ) → f v ≡ g v) → (ts : List ℕ) → word_where f ts ≡ word_where g ts
unfolding word_where
word_same f g e [] = refl
word_same f g e (t ∷ ts) = rw (e t, word_same f g e ts)

-- and one list of entries
pub entries-same : (f g : ℕ → Bool) → ((v : ℕ) → f v ≡ g v) → (ts : List ℕ) → entries_where f ts ≡ entries_where g ts
unfolding entries_where
entries-same f g e [] = refl
entries-same f g e (t ∷ ts) = rw (e t, entries-same f g e ts)

-- a test that holds of nothing has the word 0
pub none-set : (ts : List ℕ) → word_where (λ t. false) ts ≡ 0
unfolding word_where
none-set [] = refl
none-set (t ∷ ts) = rw (none-set ts)

-- the word of one test or another is that of both joined
either-bit : (a b : Bool) → max (bit a) (bit b) ≡ bit (a || b)
either-bit true true = refl
either-bit true false = refl
either-bit false true = refl
either-bit false false = refl

pub word-either : (f g : ℕ → Bool) (ts : List ℕ) → bit_or (word_where f ts) (word_where g ts) ≡ word_where (λ t. f t || g t) ts
unfolding word_where
word-either f g [] = refl
word-either f g (t ∷ ts) =
    let a = word_where f ts in
    let b = word_where g ts in
    or_step (bit (f t) + 2 * a) (bit (g t) + 2 * b) ∙
    rw (rest-bits (f t) a, rest-bits (g t) b, lowest-bit (f t) a, lowest-bit (g t) b, word-either f g ts, either-bit (f t) (g t)) (omega arith)

-- the word of one test without another is that of both joined, with the other's bits turned
left-bit : (a b : Bool) → differ (bit (a || b)) (bit b) ≡ bit (a && not b)
left-bit true true = refl
left-bit true false = refl
left-bit false true = refl
left-bit false false = refl

turned-off : (f g : ℕ → Bool) (ts : List ℕ) →
    bit_xor (word_where (λ t. f t || g t) ts) (word_where g ts) ≡ word_where (λ t. f t && not (g t)) ts
unfolding word_where
turned-off f g [] = refl
turned-off f g (t ∷ ts) =
    let a = word_where (λ t. f t || g t) ts in
    let b = word_where g ts in
    let either = f t || g t in
    xor_step (bit either + 2 * a) (bit (g t) + 2 * b) ∙
    rw (rest-bits either a, rest-bits (g t) b, lowest-bit either a, lowest-bit (g t) b, turned-off f g ts, left-bit (f t) (g t)) (omega arith)

pub word-without : (f g : ℕ → Bool) (ts : List ℕ) →
    bit_xor (bit_or (word_where f ts) (word_where g ts)) (word_where g ts) ≡ word_where (λ t. f t && not (g t)) ts
word-without f g ts = ap (λ (w : ℕ). bit_xor w (word_where g ts)) (word-either f g ts) ∙ turned-off f g ts

-- its set bits are as many as the entries that the test holds of
pub ones-where : (f : ℕ → Bool) (ts : List ℕ) → ones (word_where f ts) ≡ length (entries_where f ts)
unfolding word_where entries_where
ones-where f [] = unfold ones in refl
ones-where f (t ∷ ts) =
    let w = word_where f ts in
    ones_step (bit (f t) + 2 * w) ∙
    rw (lowest-bit (f t) w, rest-bits (f t) w, ones-where f ts) (kept (f t) (entries_where f ts))
  where
    kept : (b : Bool) (vs : List ℕ) → bit b + length vs ≡ length (keep_if b t vs)
    kept true vs = omega arith
    kept false vs = omega arith

-- The walk from the last entry down: the word of the entries after i, doubled, with the bit of entry i
module _ (f : ℕ → Bool) (ts : List ℕ) (i word : ℕ) (e : word ≡ word_where f (drop (i + 1) ts)) (h : i < length ts) where
  pub word-grown : word * 2 + bit (f (get_or ts i 0)) ≡ word_where f (drop i ts)
  unfolding word_where
  word-grown = rw (drop-next ts i 0 h, e) (omega arith)

  -- it fits in as many bits as the table has entries
  pub word_fits : (bits : ℕ) → length ts ≤ bits → word * 2 + bit (f (get_or ts i 0)) < 2 ^ bits
  word_fits bits few =
      let l = length-drop i ts in
      rw word-grown (lt_of_lt_of_le (word_below f (drop i ts)) (pow_mono {j = bits} (omega arith)))
