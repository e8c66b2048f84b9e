-- A number that occurs twice, in lists that grow at their end and in lists that are taken apart by size.
use Prim.Native.Nat.{ℕ, ◌<◌, ◌≤◌}
use mathlib.Core.Bool.{Bool, true, false, cond, ◌||◌, or-false}
use mathlib.Core.List.{List, [], ◌∷◌, ◌++◌}
use mathlib.Core.Path.{◌≡◌, refl, ap, ◌∙◌}
use native.Mathlib.Omega.{arith}
use borrow.Author.Tests.{le-ltb, lt-ltb, ltb-false, ltb-true, ne_eqb}
use lib.Dec.{eqb, ltb}
use Rattle.versions.specs.Table.{elem}
use Rattle.parameters.specs.Sequence.{repeats}
use Rattle.parameters_reader.specs.Sizes.{below, from_on}
use Rattle.parameters_reader.specs.Sorting.{meets}
use Rattle.parameters_reader.proofs.Common.{meets-swap, repeats-append}

-- One more number
pub repeats-snoc : (xs : List ℕ) (x : ℕ) → repeats (xs ++ (x ∷ [])) ≡ (repeats xs || elem x xs)
unfolding repeats elem meets
repeats-snoc xs x =
    repeats-append xs (x ∷ []) ∙ ap (λ (b : Bool). repeats xs || b) (meets-swap xs (x ∷ []) ∙ or-false (elem x xs))

-- What occurs twice in a part does so in the whole
pub repeats-front : (xs ys : List ℕ) → repeats xs ≡ true → repeats (xs ++ ys) ≡ true
repeats-front xs ys h = rw (repeats-append xs ys, h) refl

-- The small numbers and the large ones, by the size of one
module _ (n : ℕ) where
  pub below-small : (x : ℕ) (xs : List ℕ) → x < n → below n (x ∷ xs) ≡ x ∷ below n xs
  unfolding below
  below-small x xs h = rw (lt-ltb x n h)

  pub below-large : (x : ℕ) (xs : List ℕ) → n ≤ x → below n (x ∷ xs) ≡ below n xs
  unfolding below
  below-large x xs h = rw (le-ltb x n h)

  pub below-append : (xs ys : List ℕ) → below n (xs ++ ys) ≡ below n xs ++ below n ys
  unfolding below
  below-append [] ys = refl
  below-append (x ∷ xs) ys = rw (below-append xs ys) (go (ltb x n))
    where
      go : (b : Bool) → cond b (x ∷ (below n xs ++ below n ys)) (below n xs ++ below n ys)
          ≡ cond b (x ∷ below n xs) (below n xs) ++ below n ys
      go true = refl
      go false = refl

  pub from-append : (xs ys : List ℕ) → from_on n (xs ++ ys) ≡ from_on n xs ++ from_on n ys
  unfolding from_on
  from-append [] ys = refl
  from-append (x ∷ xs) ys = rw (from-append xs ys) (go (ltb x n))
    where
      go : (b : Bool) → cond b (from_on n xs ++ from_on n ys) (x ∷ (from_on n xs ++ from_on n ys))
          ≡ cond b (from_on n xs) (x ∷ from_on n xs) ++ from_on n ys
      go true = refl
      go false = refl

  pub elem_below : (v : ℕ) (xs : List ℕ) → v < n → elem v (below n xs) ≡ elem v xs
  unfolding below elem
  elem_below v [] h = refl
  elem_below v (x ∷ xs) h = go (ltb x n) (ltb-false x n) (elem_below v xs h)
    where
      go : (b : Bool) → (b ≡ false → n ≤ x) → elem v (below n xs) ≡ elem v xs
          → elem v (cond b (x ∷ below n xs) (below n xs)) ≡ (eqb x v || elem v xs)
      go true k ih = ap (λ (t : Bool). eqb x v || t) ih
      go false k ih =
          let other : (x ≡ v → ⊥) = λ e. omega (arith, k refl, h, e) in
          rw (ne_eqb x v other) ih

  elem-from : (v : ℕ) (xs : List ℕ) → n ≤ v → elem v (from_on n xs) ≡ elem v xs
  unfolding from_on elem
  elem-from v [] h = refl
  elem-from v (x ∷ xs) h = go (ltb x n) (ltb-true x n) (elem-from v xs h)
    where
      go : (b : Bool) → (b ≡ true → x < n) → elem v (from_on n xs) ≡ elem v xs
          → elem v (cond b (from_on n xs) (x ∷ from_on n xs)) ≡ (eqb x v || elem v xs)
      go false k ih = ap (λ (t : Bool). eqb x v || t) ih
      go true k ih =
          let other : (x ≡ v → ⊥) = λ e. omega (arith, k refl, h, e) in
          rw (ne_eqb x v other) ih

  -- A number that occurs twice does so among those of its size
  pub repeats-by-size : (xs : List ℕ) → repeats xs ≡ (repeats (below n xs) || repeats (from_on n xs))
  unfolding repeats below from_on
  repeats-by-size [] = refl
  repeats-by-size (x ∷ xs) =
      rw (repeats-by-size xs) (go (ltb x n) (ltb-true x n) (ltb-false x n) (repeats (below n xs)) (repeats (from_on n xs)) refl refl)
    where
      go : (b : Bool) → (b ≡ true → x < n) → (b ≡ false → n ≤ x) → (p q : Bool)
          → repeats (below n xs) ≡ p → repeats (from_on n xs) ≡ q
          → (elem x xs || (p || q))
          ≡ (repeats (cond b (x ∷ below n xs) (below n xs)) || repeats (cond b (from_on n xs) (x ∷ from_on n xs)))
      go true k l p q e d = rw (elem_below x xs (k refl), e, d) (assoc (elem x xs) p q)
        where
          assoc : (a b c : Bool) → (a || (b || c)) ≡ ((a || b) || c)
          assoc true b c = refl
          assoc false b c = refl
      go false k l p q e d = rw (elem-from x xs (l refl), e, d) (swap (elem x xs) p q)
        where
          swap : (a b c : Bool) → (a || (b || c)) ≡ (b || (a || c))
          swap true true c = refl
          swap true false c = refl
          swap false b c = refl
