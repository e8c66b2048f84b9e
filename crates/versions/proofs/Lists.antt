-- A walk over a list, entry by entry: at each place i the rest `drop i xs` answers for the whole. Each definition
-- of specs/ over a list is read here at such a rest: what its first entry decides, what it leaves, and the end.
use Prim.Native.Nat.{ℕ, suc, ◌+◌, ◌-◌, ◌<◌, ◌≤◌}
use mathlib.Core.Bool.{Bool, true, false, cond, not, ◌&&◌, ◌||◌, or_assoc, false≢true}
use mathlib.Core.List.{List, [], ◌∷◌, ◌++◌}
use mathlib.Core.Path.{◌≡◌, refl, sym, ap, ◌∙◌}
use native.Mathlib.Nat.{le_refl, zero-add}
use native.Mathlib.Numerals.{add-one}
use native.Mathlib.Omega.{arith}
use lib.ListN.{length, take, drop, get_or, length-drop, drop_of_length-le}
use lib.Seq.{drop-cons, drop-drop, take_all, length-take-le}
use Rattle.std.proofs.lemmas.List.{take-append-drop}
use borrow.Author.Tests.{eq-eqb, ne_eqb, leb-true}
use lib.Dec.{eqb, leb}
use Rattle.refusals.proofs.Rules.{both_true}
use Rattle.versions.specs.Limits.{max_table}
use Rattle.versions.specs.Pairs.{pair_keeps_rule, each_pair_keeps_rule}
use Rattle.versions.specs.Reserved.{each_reserved}
use Rattle.versions.specs.Table.{elem, place_of, entries_keep_rule, table_keeps_rule}
use Rattle.versions.specs.Version.{reserved, usable}

-- The rest at a place is the entry there and the rest after it
pub drop-next : {A : Type 0} (xs : List A) (i : ℕ) (d : A) → i < length xs → drop i xs ≡ get_or xs i d ∷ drop (i + 1) xs
drop-next xs i d h = rw (add-one, drop-cons xs i d)

-- A part from a place to the end is the rest there
pub part-rest : {A : Type 0} (xs : List A) (i : ℕ) → take (length xs - i) (drop i xs) ≡ drop i xs
part-rest xs i = take_all (length xs - i) (drop i xs) (rw (length-drop i xs) (le_refl (length xs - i)))

-- `elem`, version v
module _ (v : ℕ) (xs : List ℕ) (i : ℕ) where
  pub elem-here : i < length xs → get_or xs i 0 ≡ v → elem v (drop i xs) ≡ true
  unfolding elem
  elem-here h e = rw (drop-next xs i 0 h, eq-eqb _ _ e)

  pub elem_next : i < length xs → (get_or xs i 0 ≡ v → ⊥) → elem v (drop i xs) ≡ elem v (drop (i + 1) xs)
  unfolding elem
  elem_next h e = rw (drop-next xs i 0 h, ne_eqb _ _ e)

  pub elem_end : length xs ≤ i → elem v (drop i xs) ≡ false
  unfolding elem
  elem_end h = rw (drop_of_length-le xs h)

  pub elem-part : elem v (take (length xs - i) (drop i xs)) ≡ elem v (drop i xs)
  elem-part = ap (elem v) (part-rest xs i)

-- A list behind another
pub elem-append : (v : ℕ) (a b : List ℕ) → elem v (a ++ b) ≡ (elem v a || elem v b)
unfolding elem
elem-append v [] b = refl
elem-append v (x ∷ a) b = rw (elem-append v a b, or_assoc (eqb x v) (elem v a) (elem v b))

-- `place_of`, version v: the place in the whole is i more than that in the rest
module _ (v : ℕ) (xs : List ℕ) (i : ℕ) where
  pub place_here : i < length xs → get_or xs i 0 ≡ v → i + place_of v (drop i xs) ≡ i
  unfolding place_of
  place_here h e = rw (drop-next xs i 0 h, eq-eqb _ _ e) (omega arith)

  pub place-next : i < length xs → (get_or xs i 0 ≡ v → ⊥) → i + place_of v (drop i xs) ≡ i + 1 + place_of v (drop (i + 1) xs)
  unfolding place_of
  place-next h e = rw (drop-next xs i 0 h, ne_eqb _ _ e) (omega arith)

  pub place_end : length xs ≤ i → i + place_of v (drop i xs) ≡ i
  unfolding place_of
  place_end h = rw (drop_of_length-le xs h) (omega arith)

-- Entries without the version are passed over: its place in the whole is that many more than the one behind them
place-append : (v : ℕ) (a b : List ℕ) → elem v a ≡ false → place_of v (a ++ b) ≡ length a + place_of v b
unfolding elem place_of
place-append v [] b h = sym (zero-add _)
place-append v (x ∷ a) b h = go (eqb x v) h (place-append v a b)
  where
    go : (c : Bool) → (c || elem v a) ≡ false → (elem v a ≡ false → place_of v (a ++ b) ≡ length a + place_of v b) →
        cond c 0 (suc (place_of v (a ++ b))) ≡ suc (length a) + place_of v b
    go true h ih = absurd (false≢true (sym h))
    go false h ih = rw (ih h) (omega arith)

pub place-past : (v k i : ℕ) (xs : List ℕ) → k + i ≤ length xs → elem v (take i (drop k xs)) ≡ false →
    k + place_of v (drop k xs) ≡ k + i + place_of v (drop (k + i) xs)
place-past v k i xs h e =
    let inside : i ≤ length (drop k xs) = simp length-drop (omega arith) in
    let split : place_of v (drop k xs) ≡ i + place_of v (drop i (drop k xs)) =
    ap (place_of v) (sym (take-append-drop i (drop k xs)))
    ∙ place-append v (take i (drop k xs)) (drop i (drop k xs)) e
    ∙ ap (λ n. n + place_of v (drop i (drop k xs))) (length-take-le i (drop k xs) inside) in
    rw (split, drop-drop) (omega arith)

-- Each entry passes a test, and none is there twice: `entries_keep_rule`, `each_reserved`
pub record Once (test : ℕ → Bool) (each : List ℕ → Bool) : Type 0 where
  pub none : each [] ≡ true
  pub next : (v : ℕ) (vs : List ℕ) → each (v ∷ vs) ≡ ((test v && not (elem v vs)) && each vs)

pub table-once : Once usable entries_keep_rule
unfolding entries_keep_rule
table-once = record { none = refl; next = λ v vs. refl }

pub reserved-once : Once reserved each_reserved
unfolding each_reserved
reserved-once = record { none = refl; next = λ v vs. refl }

module _ {test : ℕ → Bool} {each : List ℕ → Bool} (once : Once test each) (xs : List ℕ) (i : ℕ) where
  here : i < length xs → each (drop i xs) ≡ ((test (get_or xs i 0) && not (elem (get_or xs i 0) (drop (i + 1) xs))) && each (drop (i + 1) xs))
  here h = ap each (drop-next xs i 0 h) ∙ once.next (get_or xs i 0) (drop (i + 1) xs)

  pub once-fails : i < length xs → test (get_or xs i 0) ≡ false → each (drop i xs) ≡ false
  once-fails h e = here h ∙ rw e

  pub once-twice : i < length xs → test (get_or xs i 0) ≡ true → elem (get_or xs i 0) (drop (i + 1) xs) ≡ true → each (drop i xs) ≡ false
  once-twice h u e = here h ∙ rw (u, e)

  pub once-next : i < length xs → test (get_or xs i 0) ≡ true → elem (get_or xs i 0) (drop (i + 1) xs) ≡ false → each (drop i xs) ≡ each (drop (i + 1) xs)
  once-next h u e = here h ∙ rw (u, e)

  pub once-end : length xs ≤ i → each (drop i xs) ≡ true
  once-end h = ap each (drop_of_length-le xs h) ∙ once.none

-- The count of a table that keeps its rule
pub table-counts : (t : List ℕ) → table_keeps_rule t ≡ true → (1 ≤ length t) × (length t ≤ max_table)
unfolding table_keeps_rule
table-counts t h =
    let a = both_true (leb 1 (length t)) _ h in
    let b = both_true (leb (length t) max_table) _ a.1 in
    (leb-true _ _ a.0, leb-true _ _ b.0)

-- "none 0, none reserved, none twice"
pub table-entries : (t : List ℕ) → table_keeps_rule t ≡ true → entries_keep_rule t ≡ true
unfolding table_keeps_rule
table-entries t h = (both_true (leb (length t) max_table) _ (both_true (leb 1 (length t)) _ h).1).1

-- A version without a place in the list does not occur in it
pub place-absent : (v : ℕ) (xs : List ℕ) → length xs ≤ place_of v xs → elem v xs ≡ false
unfolding place_of elem
place-absent v [] h = refl
place-absent v (x ∷ xs) h = go (eqb x v) h (place-absent v xs)
  where
    go : (b : Bool) → suc (length xs) ≤ cond b 0 (suc (place_of v xs)) → (length xs ≤ place_of v xs → elem v xs ≡ false) →
        (b || elem v xs) ≡ false
    go true h ih = absurd (omega arith)
    go false h ih = ih (omega arith)

-- one with a place in it does
pub place-present : (v : ℕ) (xs : List ℕ) → place_of v xs < length xs → elem v xs ≡ true
unfolding place_of elem
place-present v [] h = absurd (omega arith)
place-present v (x ∷ xs) h = go (eqb x v) h (place-present v xs)
  where
    go : (b : Bool) → cond b 0 (suc (place_of v xs)) < suc (length xs) → (place_of v xs < length xs → elem v xs ≡ true) →
        (b || elem v xs) ≡ true
    go true h ih = refl
    go false h ih = ih (omega arith)

-- `each_pair_keeps_rule`
module _ (ps : List (List ℕ)) (i : ℕ) where
  pub pairs-broken : i < length ps → pair_keeps_rule (get_or ps i []) ≡ false → each_pair_keeps_rule (drop i ps) ≡ false
  unfolding each_pair_keeps_rule
  pairs-broken h e = rw (drop-next ps i [] h, e)

  pub pairs_next : i < length ps → pair_keeps_rule (get_or ps i []) ≡ true → each_pair_keeps_rule (drop i ps) ≡ each_pair_keeps_rule (drop (i + 1) ps)
  unfolding each_pair_keeps_rule
  pairs_next h e = rw (drop-next ps i [] h, e)

  pub pairs_end : length ps ≤ i → each_pair_keeps_rule (drop i ps) ≡ true
  unfolding each_pair_keeps_rule
  pairs_end h = rw (drop_of_length-le ps h)
