-- C-12: one comparison on the whole number tells a reserved version. Of every number, so no bound is asked for.
use Prim.Native.Nat.{ℕ, ◌+◌, ◌*◌, ◌/◌}
use mathlib.Core.Bool.{◌&&◌, and-true}
use mathlib.Core.Path.{◌≡◌, sym, ap, ◌∙◌}
use native.Mathlib.Nat.{div-one, div-div-eq-div-mul}
use lib.Bits.{bit_and, and_zero_r}
use lib.Dec.{eqb, lit<}
use Rattle.versions.specs.Version.{low_half_ten, reserved}
use Rattle.versions.proofs.Masks.{masked-equal}

-- The byte of v that begins at a power of 256, and the bytes above it: m of the mask and h of what is left are theirs
low-half-ten : (power v m h : ℕ) →
    eqb (bit_and (v / power) (m * 256 + 15)) (h * 256 + 10) ≡ (low_half_ten power v && eqb (bit_and (v / (power * 256)) m) h)
low-half-ten power v m h =
    masked-equal 4 4 (v / power) m h 10 (lit< tt) ∙
    ap (λ (n : ℕ). low_half_ten power v && eqb (bit_and n m) h) (div-div-eq-div-mul v power 256)

pub reserved-masked : (v : ℕ) → eqb (bit_and v 0x0f0f0f0f) 0x0a0a0a0a ≡ reserved v
unfolding reserved
reserved-masked v =
    ap (λ (n : ℕ). eqb (bit_and n 0x0f0f0f0f) 0x0a0a0a0a) (sym (div-one v)) ∙
    rw (
      low-half-ten 0x1 v 0x0f0f0f 0x0a0a0a,
      low-half-ten 0x100 v 0x0f0f 0x0a0a,
      low-half-ten 0x10000 v 0x0f 0x0a,
      low-half-ten 0x1000000 v 0 0,
      and_zero_r (v / 0x100000000),
      and-true (low_half_ten 0x1000000 v),
    )
