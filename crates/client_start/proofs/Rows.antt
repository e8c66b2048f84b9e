-- The words of the own lists, as a start makes them: pair by pair from the pairs' end, then barred pair by barred pair from
-- their end, one bit in one word.
use Prim.Native.Nat.{ℕ, zero, suc, ◌+◌, ◌-◌, ◌≤◌, ◌<◌}
use mathlib.Core.Bool.{Bool, true, false, cond, not, ◌&&◌, ◌||◌, false≢true}
use mathlib.Core.List.{List, [], ◌∷◌, reverse}
use mathlib.Core.Path.{◌≡◌, refl, sym, ap, ap₂, ◌∙◌}
use native.Mathlib.Omega.{arith}
use lib.Bits.{bit_or, bit_xor}
use lib.Dec.{eqb, leb}
use lib.ListN.{length, take, drop, get_or, set, replicate, length-set, drop_of_length-le, get_or-append}
use lib.Seq.{set-append_left}
use borrow.Author.Tests.{eqb-true, eqb-false, eq-eqb, ne_eqb, not-true}
use Rattle.std.proofs.lemmas.List.{get_or_default, get_or-reverse, length-reverse}
use Rattle.refusals.proofs.Rules.{both_true}
use Rattle.versions.specs.Limits.{max_pairs, max_table}
use Rattle.versions.specs.Pairs.{from_of, to_of, paired, pair_keeps_rule, each_pair_keeps_rule, pairs_keep_rule}
use Rattle.versions.specs.Table.{elem, place_of, entries_keep_rule, table_keeps_rule}
use Rattle.versions.specs.Version.{usable}
use Rattle.versions.specs.Words.{word_bits, word_where, marked}
use Rattle.versions.proofs.Bits.{word_same, none-set, word-without}
use Rattle.versions.proofs.Lists.{drop-next, table-entries, place-absent}
use Rattle.versions.proofs.Marked.{once, word-of-all, marked-set, equal-turned, from-none, from-pair, from-other}
use Rattle.attempt.specs.Attempt.{padded}
use Rattle.attempt.specs.OwnList.{may_be_answered, word_for, rows_for}
use Rattle.attempt.proofs.Barred.{word-as-before}

-- The word of one version, by the pairs and with nothing barred
module _ (ts : List ℕ) (kept : entries_keep_rule ts ≡ true) (v : ℕ) where
  pub word_none : marked ts v 0 ≡ word_for ts [] [] v
  word_none = from-none ts kept v ∙ sym (word-as-before [] ts v)

  word-pair : (p : List ℕ) (ps : List (List ℕ)) → v ≡ from_of p → marked ts (to_of p) (word_for ts ps [] v) ≡ word_for ts (p ∷ ps) [] v
  word-pair p ps e =
      ap (marked ts (to_of p)) (word-as-before ps ts v) ∙ from-pair ts kept v p ps (sym e) ∙ sym (word-as-before (p ∷ ps) ts v)

  word-other : (p : List ℕ) (ps : List (List ℕ)) → (v ≡ from_of p → ⊥) → word_for ts ps [] v ≡ word_for ts (p ∷ ps) [] v
  word-other p ps e =
      word-as-before ps ts v ∙ from-other ts kept v p ps (λ s. e (sym s)) ∙ sym (word-as-before (p ∷ ps) ts v)

-- A word without the bit of a version
abbrev unmarked : List ℕ → ℕ → ℕ → ℕ
unmarked ts v word = bit_xor (bit_or word (marked ts v 0)) (marked ts v 0)

unmarked-set : (f : ℕ → Bool) (v : ℕ) (ts : List ℕ) → entries_keep_rule ts ≡ true →
    unmarked ts v (word_where f ts) ≡ word_where (λ t. f t && not (eqb t v || false)) ts
unmarked-set f v ts kept =
    let one : marked ts v 0 ≡ word_where (λ t. eqb t v || false) ts =
    ap (marked ts v) (sym (none-set ts)) ∙ marked-set (λ t. false) v ts kept in
    rw one (word-without f (λ t. eqb t v || false) ts)

-- The word of one version, with one pair more barred
module _ (ts : List ℕ) (kept : entries_keep_rule ts ≡ true) (pairs : List (List ℕ)) (p : List ℕ) (bs : List (List ℕ)) (v : ℕ) where
  -- a version that is not the attempted one, or is: the latter stays, since the pair's members differ
  left_out : (from_of p ≡ to_of p → ⊥) → v ≡ from_of p → (t : ℕ) →
      (may_be_answered pairs bs v t && not (eqb t (to_of p) || false)) ≡ may_be_answered pairs (p ∷ bs) v t
  unfolding may_be_answered paired
  left_out differ e t =
      rw (eq-eqb (from_of p) v (sym e), equal-turned t (to_of p))
      (go (eqb t v) refl (eqb (to_of p) t) refl (paired pairs v t) (paired bs v t))
    where
      go : (is : Bool) → eqb t v ≡ is → (to : Bool) → eqb (to_of p) t ≡ to → (compatible others : Bool) →
          ((is || (compatible && not others)) && not (to || false)) ≡ (is || (compatible && not (to || others)))
      go true s true f c o = absurd (differ (sym e ∙ sym (eqb-true t v s) ∙ sym (eqb-true (to_of p) t f)))
      go true s false f c o = refl
      go false s true f true true = refl
      go false s true f true false = refl
      go false s true f false o = refl
      go false s false f true true = refl
      go false s false f true false = refl
      go false s false f false o = refl

  word-barred : (from_of p ≡ to_of p → ⊥) → v ≡ from_of p → unmarked ts (to_of p) (word_for ts pairs bs v) ≡ word_for ts pairs (p ∷ bs) v
  unfolding word_for
  word-barred differ e =
      unmarked-set (may_be_answered pairs bs v) (to_of p) ts kept ∙
      word_same (λ t. may_be_answered pairs bs v t && not (eqb t (to_of p) || false)) (may_be_answered pairs (p ∷ bs) v) (left_out differ e) ts

  word-not-barred : (v ≡ from_of p → ⊥) → word_for ts pairs bs v ≡ word_for ts pairs (p ∷ bs) v
  unfolding word_for
  word-not-barred e =
      word_same (may_be_answered pairs bs v) (may_be_answered pairs (p ∷ bs) v)
      (λ t. unfold may_be_answered paired in rw (ne_eqb (from_of p) v (λ s. e (sym s)))) ts

-- The rows

pub length-rows : (vs table : List ℕ) (pairs barred : List (List ℕ)) → length (rows_for vs table pairs barred) ≡ length vs
unfolding rows_for
length-rows [] table pairs barred = refl
length-rows (v ∷ vs) table pairs barred = ap suc (length-rows vs table pairs barred)

pub row_at : (vs table : List ℕ) (pairs barred : List (List ℕ)) (i : ℕ) → i < length vs →
    get_or (rows_for vs table pairs barred) i 0 ≡ word_for table pairs barred (get_or vs i 0)
unfolding rows_for
row_at [] table pairs barred i h = absurd (omega arith)
row_at (v ∷ vs) table pairs barred zero h = refl
row_at (v ∷ vs) table pairs barred (suc i) h = row_at vs table pairs barred i (omega arith)

-- From pairs ps and barred pairs bs to qs and cs, where the word of one version alone is another
module _ (ts : List ℕ) (ps bs qs cs : List (List ℕ)) (from : ℕ) (change : ℕ → ℕ)
    (hit : (v : ℕ) → v ≡ from → change (word_for ts ps bs v) ≡ word_for ts qs cs v)
    (other : (v : ℕ) → (v ≡ from → ⊥) → word_for ts ps bs v ≡ word_for ts qs cs v) where
  -- no entry is that version
  rows_other : (vs : List ℕ) → elem from vs ≡ false → rows_for vs ts ps bs ≡ rows_for vs ts qs cs
  unfolding rows_for elem
  rows_other [] h = refl
  rows_other (v ∷ vs) h = go (eqb v from) refl h (rows_other vs)
    where
      go : (b : Bool) → eqb v from ≡ b → (b || elem from vs) ≡ false →
          (elem from vs ≡ false → rows_for vs ts ps bs ≡ rows_for vs ts qs cs) →
          rows_for (v ∷ vs) ts ps bs ≡ rows_for (v ∷ vs) ts qs cs
      go true e h ih = absurd (false≢true (sym h))
      go false e h ih = rw (other v (eqb-false v from e), ih h)

  -- the entry at its place is, and no other one
  rows-changed : (vs : List ℕ) → entries_keep_rule vs ≡ true → place_of from vs < length vs →
      set (rows_for vs ts ps bs) (place_of from vs) (change (get_or (rows_for vs ts ps bs) (place_of from vs) 0)) ≡ rows_for vs ts qs cs
  unfolding rows_for place_of
  rows-changed [] k h = absurd (omega arith)
  rows-changed (v ∷ vs) k h =
      let first = once v vs k in
      go (eqb v from) refl h first.0 (rows-changed vs first.1)
    where
      place : ℕ
      place = place_of from vs

      go : (b : Bool) → eqb v from ≡ b → cond b 0 (suc place) < suc (length vs) → elem v vs ≡ false →
          (place < length vs → set (rows_for vs ts ps bs) place (change (get_or (rows_for vs ts ps bs) place 0)) ≡ rows_for vs ts qs cs) →
          set (word_for ts ps bs v ∷ rows_for vs ts ps bs) (cond b 0 (suc place))
          (change (get_or (word_for ts ps bs v ∷ rows_for vs ts ps bs) (cond b 0 (suc place)) 0)) ≡
          word_for ts qs cs v ∷ rows_for vs ts qs cs
      go true e h none ih =
          let is = eqb-true v from e in
          ap₂ (λ (w : ℕ) (ws : List ℕ). w ∷ ws) (hit v is) (rows_other vs (rw (← is) none))
      go false e h none ih =
          ap₂ (λ (w : ℕ) (ws : List ℕ). w ∷ ws) (other v (eqb-false v from e)) (ih (omega arith))

-- A list in places, read and changed at a place of the list
module _ (n : ℕ) (xs : List ℕ) (i : ℕ) (h : i < length xs) where
  read-padded : get_or (padded n xs) i 0 ≡ get_or xs i 0
  unfolding padded
  read-padded = get_or-append xs (drop (length xs) (replicate n 0)) 0 i h

  set-padded : (x : ℕ) → set (padded n xs) i x ≡ padded n (set xs i x)
  unfolding padded
  set-padded x = rw (length-set xs i x) (set-append_left xs (drop (length xs) (replicate n 0)) i x h)

-- the same of rows in their places
module _ (ts : List ℕ) (kept : entries_keep_rule ts ≡ true) (ps bs qs cs : List (List ℕ)) (from : ℕ) (change : ℕ → ℕ)
    (hit : (v : ℕ) → v ≡ from → change (word_for ts ps bs v) ≡ word_for ts qs cs v)
    (other : (v : ℕ) → (v ≡ from → ⊥) → word_for ts ps bs v ≡ word_for ts qs cs v) where
  places-changed : place_of from ts < length ts →
      let rows = padded max_table (rows_for ts ts ps bs) in
      set rows (place_of from ts) (change (get_or rows (place_of from ts) 0)) ≡ padded max_table (rows_for ts ts qs cs)
  places-changed f =
      let words : List ℕ = rows_for ts ts ps bs in
      let place : place_of from ts < length words = rw (length-rows ts ts ps bs) f in
      rw (
        read-padded max_table words (place_of from ts) place,
        set-padded max_table words (place_of from ts) place (change (get_or words (place_of from ts) 0)),
      )
      (ap (padded max_table) (rows-changed ts ps bs qs cs from change hit other ts kept f))

  places-other : length ts ≤ place_of from ts → padded max_table (rows_for ts ts ps bs) ≡ padded max_table (rows_for ts ts qs cs)
  places-other f = ap (padded max_table) (rows_other ts ps bs qs cs from change hit other ts (place-absent from ts f))

-- A pair of pairs that keep their rule has two members
kept_at : (ps : List (List ℕ)) (i : ℕ) → each_pair_keeps_rule ps ≡ true → i < length ps → pair_keeps_rule (get_or ps i []) ≡ true
unfolding each_pair_keeps_rule
kept_at [] i r h = absurd (omega arith)
kept_at (p ∷ ps) zero r h = (both_true (pair_keeps_rule p) (each_pair_keeps_rule ps) r).0
kept_at (p ∷ ps) (suc i) r h = kept_at ps i (both_true (pair_keeps_rule p) (each_pair_keeps_rule ps) r).1 (omega arith)

members-differ : (ps : List (List ℕ)) (i : ℕ) → pairs_keep_rule ps ≡ true → i < length ps →
    from_of (get_or ps i []) ≡ to_of (get_or ps i []) → ⊥
unfolding pair_keeps_rule pairs_keep_rule
members-differ ps i rule h =
    let pair = get_or ps i [] in
    let each = (both_true (leb (length ps) max_pairs) _ rule).1 in
    let usable-both = (both_true (usable (from_of pair)) _ (kept_at ps i each h)).1 in
    eqb-false (from_of pair) (to_of pair) (not-true _ (both_true (usable (to_of pair)) _ usable-both).1)

-- The walk down the pairs: k is the place before j
module _ (ts : List ℕ) (kept : table_keeps_rule ts ≡ true) (ps : List (List ℕ)) (k j : ℕ) (e : j ≡ k + 1) (h : k < length ps) where
  abbrev pair : List ℕ
  pair = get_or ps k []

  abbrev rest : List (List ℕ)
  rest = drop (k + 1) ps

  pub rows-hit : place_of (from_of pair) ts < length ts →
      let rows = padded max_table (rows_for ts ts (drop j ps) []) in
      let from = place_of (from_of pair) ts in
      set rows from (marked (take word_bits ts) (to_of pair) (get_or rows from 0)) ≡ padded max_table (rows_for ts ts (drop k ps) [])
  rows-hit f =
      let entries = table-entries ts kept in
      rw (word-of-all ts kept, e, drop-next ps k [] h)
      (places-changed ts entries rest [] (pair ∷ rest) [] (from_of pair) (marked ts (to_of pair))
      (λ v. word-pair ts entries v pair rest) (λ v. word-other ts entries v pair rest) f)

  pub rows-miss : length ts ≤ place_of (from_of pair) ts →
      padded max_table (rows_for ts ts (drop j ps) []) ≡ padded max_table (rows_for ts ts (drop k ps) [])
  rows-miss f =
      let entries = table-entries ts kept in
      rw (e, drop-next ps k [] h)
      (places-other ts entries rest [] (pair ∷ rest) [] (from_of pair) (marked ts (to_of pair))
      (λ v. word-pair ts entries v pair rest) (λ v. word-other ts entries v pair rest) f)

-- The same walk down the barred pairs, which keep the rule of pairs
module _ (ts : List ℕ) (kept : table_keeps_rule ts ≡ true) (ps bs : List (List ℕ)) (rule : pairs_keep_rule bs ≡ true) (k j : ℕ)
    (e : j ≡ k + 1) (h : k < length bs) where
  abbrev excluded : List ℕ
  excluded = get_or bs k []

  abbrev others : List (List ℕ)
  others = drop (k + 1) bs

  pub barred-hit : place_of (from_of excluded) ts < length ts →
      let rows = padded max_table (rows_for ts ts ps (drop j bs)) in
      let from = place_of (from_of excluded) ts in
      let bit = marked (take word_bits ts) (to_of excluded) 0 in
      set rows from (bit_xor (bit_or (get_or rows from 0) bit) bit) ≡ padded max_table (rows_for ts ts ps (drop k bs))
  barred-hit f =
      let entries = table-entries ts kept in
      rw (word-of-all ts kept, e, drop-next bs k [] h)
      (places-changed ts entries ps others ps (excluded ∷ others) (from_of excluded) (unmarked ts (to_of excluded))
      (λ v. word-barred ts entries ps excluded others v (members-differ bs k rule h))
      (λ v. word-not-barred ts entries ps excluded others v) f)

  pub barred-miss : length ts ≤ place_of (from_of excluded) ts →
      padded max_table (rows_for ts ts ps (drop j bs)) ≡ padded max_table (rows_for ts ts ps (drop k bs))
  barred-miss f =
      let entries = table-entries ts kept in
      rw (e, drop-next bs k [] h)
      (places-other ts entries ps others ps (excluded ∷ others) (from_of excluded) (unmarked ts (to_of excluded))
      (λ v. word-barred ts entries ps excluded others v (members-differ bs k rule h))
      (λ v. word-not-barred ts entries ps excluded others v) f)

pub rows_end : (ts : List ℕ) (ps : List (List ℕ)) →
    padded max_table (rows_for ts ts [] []) ≡ padded max_table (rows_for ts ts (drop (length ps) ps) [])
rows_end ts ps = let le : length ps ≤ length ps = omega arith in rw (drop_of_length-le ps le)

pub barred-end : (ts : List ℕ) (ps bs : List (List ℕ)) →
    padded max_table (rows_for ts ts ps []) ≡ padded max_table (rows_for ts ts ps (drop (length bs) bs))
barred-end ts ps bs = let le : length bs ≤ length bs = omega arith in rw (drop_of_length-le bs le)

-- A walk from the end: what the k-th turn reads, and where the rest then begins
pub from_the_end : {A : Type 0} (xs : List A) (k : ℕ) (x : A) → (k < length (reverse xs)) × (x ≡ get_or (reverse xs) k x) →
    (length xs - (k + 1) < length xs) × (length xs - k ≡ length xs - (k + 1) + 1) × ((d : A) → x ≡ get_or xs (length xs - (k + 1)) d)
from_the_end xs k x h =
    let within : k < length xs = rw (← length-reverse xs) h.0 in
    let at : x ≡ get_or xs (length xs - (k + 1)) x = h.1 ∙ get_or-reverse xs k x within ∙ ap (λ (i : ℕ). get_or xs i x) (omega (arith, within)) in (
      omega (arith, within),
      omega (arith, within),
      λ d. at ∙ get_or_default xs (length xs - (k + 1)) x d (omega (arith, within)),
    )
