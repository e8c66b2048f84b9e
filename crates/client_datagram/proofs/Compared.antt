-- Equality of byte strings, walked byte by byte.
use Prim.Native.Nat.{ℕ, ◌+◌, ◌<◌, ◌≤◌}
use mathlib.Core.Bool.{Bool, true, false, ◌&&◌}
use mathlib.Core.List.{List, [], ◌∷◌}
use mathlib.Core.Path.{◌≡◌, refl, ap}
use native.Mathlib.Omega.{arith}
use lib.Dec.{eqb}
use lib.ListN.{length, drop, get_or, drop_of_length-le}
use borrow.Author.Tests.{eq-eqb, ne_eqb}
use Rattle.versions.proofs.Lists.{drop-next}
use Rattle.attempt.specs.Step.{same}

and-false-right : (b c : Bool) → c ≡ false → (b && c) ≡ false
and-false-right true c e = e
and-false-right false c e = refl

pub same-lengths : (xs ys : List ℕ) → (length xs ≡ length ys → ⊥) → same xs ys ≡ false
unfolding same
same-lengths [] [] h = absurd (h refl)
same-lengths [] (y ∷ ys) h = refl
same-lengths (x ∷ xs) [] h = refl
same-lengths (x ∷ xs) (y ∷ ys) h =
    and-false-right (eqb x y) (same xs ys) (same-lengths xs ys (λ e. h (ap Prim.Native.Nat.suc e)))

module _ (xs ys : List ℕ) (i : ℕ) (lengths : length xs ≡ length ys) where
  pub same-differ : i < length xs → (get_or xs i 0 ≡ get_or ys i 0 → ⊥) → same (drop i xs) (drop i ys) ≡ false
  unfolding same
  same-differ h e =
      let k : i < length ys = omega arith in
      rw (drop-next xs i 0 h, drop-next ys i 0 k, ne_eqb _ _ e)

  pub same_next : i < length xs → get_or xs i 0 ≡ get_or ys i 0 → same (drop i xs) (drop i ys) ≡ same (drop (i + 1) xs) (drop (i + 1) ys)
  unfolding same
  same_next h e =
      let k : i < length ys = omega arith in
      rw (drop-next xs i 0 h, drop-next ys i 0 k, eq-eqb _ _ e)

  pub same_end : length xs ≤ i → same (drop i xs) (drop i ys) ≡ true
  unfolding same
  same_end h =
      let k : length ys ≤ i = omega arith in
      rw (drop_of_length-le xs h, drop_of_length-le ys k)
