-- A list searched: by the library's method, whose answer is `elem`, and for a place.
use Rattle.std.proofs.Common.{◌≤◌, ◌<◌, ℕ, List, [], ◌∷◌, Bool, true, false, cond, ◌||◌, ◌≡◌, refl, sym, ap, Some, None, length}
use Rattle.std.specs.Prelude.{Option, ltb, unwrap_or, eqb}
use borrow.Author.Tests.{ltb-true, ltb-false, lt-ltb, le-ltb}
use Rattle.std.proofs.lemmas.Option.{none-some}
use Rattle.std.specs.List.{list_any}
use Rattle.versions.specs.Table.{elem, place_of, place_in}

pub elem_any : (v : ℕ) (xs : List ℕ) → elem v xs ≡ list_any (λ x. eqb x v) xs
unfolding elem
elem_any v [] = refl
elem_any v (x ∷ xs) = ap (λ (b : Bool). eqb x v || b) (elem_any v xs)

-- The place where a search of the list stopped

pub stopped-there : (v : ℕ) (xs : List ℕ) (p : ℕ) → place_of v xs ≡ p → p < length xs → Some p ≡ place_in v xs
stopped-there v xs p e h = rw (e, lt-ltb p (length xs) h)

pub stopped-past : (v : ℕ) (xs : List ℕ) (p : ℕ) → place_of v xs ≡ p → length xs ≤ p → None ≡ place_in v xs
stopped-past v xs p e h = rw (e, le-ltb p (length xs) h)

-- A place that is found, or none
pub place-there : (v : ℕ) (xs : List ℕ) (p : ℕ) → Some p ≡ place_in v xs → (place_of v xs ≡ p) × (p < length xs)
place-there v xs p = go (ltb (place_of v xs) (length xs)) refl
  where
    go : (b : Bool) → ltb (place_of v xs) (length xs) ≡ b → Some p ≡ cond b (Some (place_of v xs)) None →
        (place_of v xs ≡ p) × (p < length xs)
    go true e h =
        let same : p ≡ place_of v xs = ap (λ (o : Option ℕ). unwrap_or o p) h in
        (sym same, rw same (ltb-true _ _ e))
    go false e h = absurd (none-some p (sym h))

pub place-none : (v : ℕ) (xs : List ℕ) → None ≡ place_in v xs → length xs ≤ place_of v xs
place-none v xs = go (ltb (place_of v xs) (length xs)) refl
  where
    go : (b : Bool) → ltb (place_of v xs) (length xs) ≡ b → None ≡ cond b (Some (place_of v xs)) None → length xs ≤ place_of v xs
    go true e h = absurd (none-some (place_of v xs) h)
    go false e h = ltb-false _ _ e
