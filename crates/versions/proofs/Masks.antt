-- A number under a mask, block by block from the lowest bits up. A block has i + j bits, and of the lowest block the
-- mask keeps the j low ones. A byte whose low half is kept is a block with i and j 4; a bit that is kept is a block
-- with i 0 and j 1, a bit that is not one with i 1 and j 0.
use Prim.Native.Nat.{ℕ, ◌+◌, ◌-◌, ◌*◌, ◌/◌, ◌%◌, ◌^◌, ◌<◌}
use mathlib.Core.Bool.{Bool, true, false, ◌&&◌}
use mathlib.Core.Path.{◌≡◌, refl, sym, ap, ap₂, ◌∙◌}
use native.Mathlib.Nat.{le-add_left, lt_of_lt_of_le, mod-lt}
use lib.Bits.{bit_and, and_block, and_mask}
use lib.Dec.{eqb}
use lib.Pow.{pow_pos, pow_mono, split, high, low, mod-mod-pow, ones_lt}
use borrow.Author.Tests.{eqb-true, eqb-false, eq-eqb, ne_eqb}

-- Two numbers are equal where their lowest blocks are, and what lies above these
pub blocks-equal : (k a b r s : ℕ) → r < 2 ^ k → s < 2 ^ k → eqb (a * 2 ^ k + r) (b * 2 ^ k + s) ≡ (eqb r s && eqb a b)
blocks-equal k a b r s r-fits s-fits = go (eqb r s) refl (eqb a b) refl
  where
    go : (low? : Bool) → eqb r s ≡ low? → (high? : Bool) → eqb a b ≡ high? →
        eqb (a * 2 ^ k + r) (b * 2 ^ k + s) ≡ (low? && high?)
    go true e true f = eq-eqb _ _ (ap₂ (λ (x y : ℕ). x * 2 ^ k + y) (eqb-true a b f) (eqb-true r s e))
    go true e false f =
        ne_eqb _ _ (λ q. eqb-false a b f (sym (high a k r-fits) ∙ ap (λ (n : ℕ). n / 2 ^ k) q ∙ high b k s-fits))
    go false e high? f =
        ne_eqb _ _ (λ q. eqb-false r s e (sym (low a k r-fits) ∙ ap (λ (n : ℕ). n % 2 ^ k) q ∙ low b k s-fits))

module _ (i j : ℕ) where
  -- what has j bits fits into a block
  fits : {n : ℕ} → n < 2 ^ j → n < 2 ^ (i + j)
  fits h = lt_of_lt_of_le h (pow_mono (le-add_left j i))

  -- What is kept of v: the j low bits of its lowest block, and above that block what the rest m of the mask keeps
  pub masked : (v m : ℕ) → bit_and v (m * 2 ^ (i + j) + (2 ^ j - 1)) ≡ bit_and (v / 2 ^ (i + j)) m * 2 ^ (i + j) + v % 2 ^ j
  masked v m =
      ap (λ (n : ℕ). bit_and n (m * 2 ^ (i + j) + (2 ^ j - 1))) (sym (split v (i + j))) ∙
      and_block (i + j) (v / 2 ^ (i + j)) m (v % 2 ^ (i + j)) (2 ^ j - 1) (mod-lt v (pow_pos (i + j))) (fits (ones_lt j)) ∙
      ap (λ (n : ℕ). bit_and (v / 2 ^ (i + j)) m * 2 ^ (i + j) + n) (and_mask (v % 2 ^ (i + j)) j ∙ mod-mod-pow v i j)

  -- What is kept is compared block by block: here with l, and above with h
  pub masked-equal : (v m h l : ℕ) → l < 2 ^ j →
      eqb (bit_and v (m * 2 ^ (i + j) + (2 ^ j - 1))) (h * 2 ^ (i + j) + l) ≡ (eqb (v % 2 ^ j) l && eqb (bit_and (v / 2 ^ (i + j)) m) h)
  masked-equal v m h l l-fits =
      ap (λ (n : ℕ). eqb n (h * 2 ^ (i + j) + l)) (masked v m) ∙
      blocks-equal (i + j) (bit_and (v / 2 ^ (i + j)) m) h (v % 2 ^ j) l (fits (mod-lt v (pow_pos j))) (fits l-fits)
