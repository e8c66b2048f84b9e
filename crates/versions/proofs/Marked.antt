-- Words: what marking a version does to a word, as a number and as a set.
use Prim.Native.Nat.{ℕ, zero, suc, ◌+◌, ◌*◌, ◌/◌, ◌%◌, ◌^◌, ◌≤◌, ◌<◌, max}
use mathlib.Core.Bool.{Bool, true, false, cond, not, ◌&&◌, ◌||◌, true≢false}
use mathlib.Core.List.{List, [], ◌∷◌}
use mathlib.Core.Path.{◌≡◌, refl, sym, ap, ◌∙◌}
use native.Mathlib.Nat.{le_trans, two-pow-succ}
use native.Mathlib.Omega.{arith}
use lib.Bits.{bit_or, or_step, or_zero_r}
use lib.Dec.{eqb}
use lib.ListN.{length, take}
use lib.Seq.{take_all}
use borrow.Author.Tests.{eqb-true, eqb-false, eq-eqb, ne_eqb, not-true}
use Rattle.refusals.proofs.Rules.{both_true}
use Rattle.versions.specs.Limits.{max_table}
use Rattle.versions.specs.Pairs.{from_of, to_of, paired}
use Rattle.versions.specs.Table.{elem, place_of, entries_keep_rule, table_keeps_rule}
use Rattle.versions.specs.Version.{usable}
use Rattle.versions.specs.Words.{word_bits, bit, word_where, word_from, marked}
use Rattle.versions.proofs.Bits.{lowest-bit, rest-bits, word_same, none-set}
use Rattle.versions.proofs.Lists.{table-counts}
use Rattle.versions.proofs.Repeated.{or_swap}

-- A word has a bit for each entry of a table that keeps its rule
pub table-in-word : max_table ≤ word_bits
table-in-word = omega arith

pub kept-in-word : (table : List ℕ) → table_keeps_rule table ≡ true → length table ≤ word_bits
kept-in-word table kept = le_trans (table-counts table kept).1 table-in-word

pub word-of-all : (table : List ℕ) → table_keeps_rule table ≡ true → take word_bits table ≡ table
word-of-all table kept = take_all word_bits table (kept-in-word table kept)

-- As a number: no bit is set past the first n entries, and none where there is no place

pub marked-nowhere : (n : ℕ) (ts : List ℕ) (v w : ℕ) → length (take n ts) ≤ place_of v ts → marked (take n ts) v w ≡ w
unfolding marked place_of
marked-nowhere zero ts v w h = refl
marked-nowhere (suc n) [] v w h = refl
marked-nowhere (suc n) (t ∷ ts) v w h = go (eqb t v) h (marked-nowhere n ts v (w / 2))
  where
    go : (b : Bool) → suc (length (take n ts)) ≤ cond b 0 (suc (place_of v ts)) →
        (length (take n ts) ≤ place_of v ts → marked (take n ts) v (w / 2) ≡ w / 2) →
        cond b (1 + 2 * (w / 2)) (w % 2 + 2 * marked (take n ts) v (w / 2)) ≡ w
    go true h ih = absurd (omega arith)
    go false h ih = rw (ih (omega arith)) (omega arith)

-- the lowest bit set, and a higher one
lowest_set : (w : ℕ) → 1 + 2 * (w / 2) ≡ bit_or w 1
lowest_set w =
    let set : max (w % 2) 1 ≡ 1 = omega arith in
    rw (or_step w 1, or_zero_r (w / 2), set) (omega arith)

higher-set : (w k : ℕ) → w % 2 + 2 * bit_or (w / 2) (2 ^ k) ≡ bit_or w (2 ^ suc k)
higher-set w k =
    let half : 2 ^ suc k / 2 ≡ 2 ^ k = rw (two-pow-succ k) (omega arith) in
    let even : 2 ^ suc k % 2 ≡ 0 = rw (two-pow-succ k) (omega arith) in
    let kept : max (w % 2) 0 ≡ w % 2 = omega arith in
    rw (or_step w (2 ^ suc k), half, even, kept) (omega arith)

pub marked-at : (n : ℕ) (ts : List ℕ) (v w : ℕ) → place_of v ts < n → place_of v ts < length ts →
    marked (take n ts) v w ≡ bit_or w (2 ^ place_of v ts)
unfolding marked place_of
marked-at zero ts v w h l = absurd (omega arith)
marked-at (suc n) [] v w h l = absurd (omega arith)
marked-at (suc n) (t ∷ ts) v w h l = go (eqb t v) h l (marked-at n ts v (w / 2))
  where
    go : (b : Bool) → cond b 0 (suc (place_of v ts)) < suc n → cond b 0 (suc (place_of v ts)) < suc (length ts) →
        (place_of v ts < n → place_of v ts < length ts → marked (take n ts) v (w / 2) ≡ bit_or (w / 2) (2 ^ place_of v ts)) →
        cond b (1 + 2 * (w / 2)) (w % 2 + 2 * marked (take n ts) v (w / 2)) ≡ bit_or w (2 ^ cond b 0 (suc (place_of v ts)))
    go true h l ih = lowest_set w
    go false h l ih = rw (ih (omega arith) (omega arith)) (higher-set w (place_of v ts))

-- As a set: a mark is one version more in the set, where no entry stands twice

-- a version that no entry is adds nothing
absent : (f : ℕ → Bool) (v : ℕ) (ts : List ℕ) → elem v ts ≡ false → word_where (λ t. eqb t v || f t) ts ≡ word_where f ts
unfolding word_where elem
absent f v [] h = refl
absent f v (t ∷ ts) h = go (eqb t v) h (absent f v ts)
  where
    go : (b : Bool) → (b || elem v ts) ≡ false →
        (elem v ts ≡ false → word_where (λ t. eqb t v || f t) ts ≡ word_where f ts) →
        bit (b || f t) + 2 * word_where (λ t. eqb t v || f t) ts ≡ bit (f t) + 2 * word_where f ts
    go true h ih = absurd (true≢false h)
    go false h ih = rw (ih h)

-- what the rule says of the first entry, and of the rest
pub once : (t : ℕ) (ts : List ℕ) → entries_keep_rule (t ∷ ts) ≡ true → (elem t ts ≡ false) × (entries_keep_rule ts ≡ true)
unfolding entries_keep_rule
once t ts h =
    let both = both_true (usable t && not (elem t ts)) (entries_keep_rule ts) h in
    (not-true (elem t ts) (both_true (usable t) (not (elem t ts)) both.0).1, both.1)

pub marked-set : (f : ℕ → Bool) (v : ℕ) (ts : List ℕ) → entries_keep_rule ts ≡ true →
    marked ts v (word_where f ts) ≡ word_where (λ t. eqb t v || f t) ts
unfolding marked word_where
marked-set f v [] h = refl
marked-set f v (t ∷ ts) h =
    let k = once t ts h in
    go (eqb t v) refl k.0 (marked-set f v ts k.1)
  where
    rest : ℕ
    rest = word_where f ts

    go : (b : Bool) → eqb t v ≡ b → elem t ts ≡ false → marked ts v rest ≡ word_where (λ t. eqb t v || f t) ts →
        cond b (1 + 2 * ((bit (f t) + 2 * rest) / 2)) ((bit (f t) + 2 * rest) % 2 + 2 * marked ts v ((bit (f t) + 2 * rest) / 2)) ≡
        bit (b || f t) + 2 * word_where (λ t. eqb t v || f t) ts
    go true e k ih =
        let none : elem v ts ≡ false = rw (← eqb-true t v e) k in
        rw (rest-bits (f t) rest, absent f v ts none)
    go false e k ih = rw (rest-bits (f t) rest, lowest-bit (f t) rest, ih)

-- The word from pairs, pair by pair from the pairs' end

pub equal-turned : (a b : ℕ) → eqb a b ≡ eqb b a
equal-turned a b = go (eqb b a) refl
  where
    go : (r : Bool) → eqb b a ≡ r → eqb a b ≡ r
    go true e = eq-eqb a b (sym (eqb-true b a e))
    go false e = ne_eqb a b (λ s. eqb-false b a e (sym s))

module _ (ts : List ℕ) (kept : entries_keep_rule ts ≡ true) (v : ℕ) where
  pub from-none : marked ts v 0 ≡ word_from ts [] v
  unfolding paired
  from-none = ap (marked ts v) (sym (none-set ts)) ∙ marked-set (λ t. false) v ts kept

  pub from-pair : (p : List ℕ) (ps : List (List ℕ)) → from_of p ≡ v →
      marked ts (to_of p) (word_from ts ps v) ≡ word_from ts (p ∷ ps) v
  unfolding paired
  from-pair p ps e =
      marked-set (λ t. eqb t v || paired ps v t) (to_of p) ts kept ∙
      word_same (λ t. eqb t (to_of p) || (eqb t v || paired ps v t)) (λ t. eqb t v || paired (p ∷ ps) v t)
      (λ t. rw (eq-eqb _ _ e, equal-turned t (to_of p)) (or_swap (eqb (to_of p) t) (eqb t v) (paired ps v t))) ts

  pub from-other : (p : List ℕ) (ps : List (List ℕ)) → (from_of p ≡ v → ⊥) → word_from ts ps v ≡ word_from ts (p ∷ ps) v
  unfolding paired
  from-other p ps e =
      word_same (λ t. eqb t v || paired ps v t) (λ t. eqb t v || paired (p ∷ ps) v t) (λ t. rw (ne_eqb _ _ e)) ts
