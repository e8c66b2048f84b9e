-- Barred pairs. Document 02, C-17: "With nothing barred all of P1 to P12 stand." What reads the barred pairs says with
-- nothing barred what it said before there were any; the earlier right-hand sides are written out. Then the laws: the
-- attempted version may always be answered, a barred pair never, and barring more leaves a part.
use Prim.Native.Nat.{ℕ}
use mathlib.Core.Bool.{Bool, true, false, cond, not, ◌&&◌, ◌||◌, and-true, and-false, or-false, false≢true}
use mathlib.Core.List.{List, [], ◌∷◌, ◌++◌}
use mathlib.Core.Path.{◌≡◌, refl, sym, ap, ◌∙◌}
use lib.Dec.{eqb, ltb}
use lib.ListN.{length}
use borrow.Author.Tests.{eq-eqb, ne_eqb}
use Rattle.refusals.specs.Rule.{Rule.◌when◌}
use Rattle.refusals.proofs.Rules.{both_true}
use Rattle.versions.specs.Pairs.{from_of, to_of, paired, pairs_keep_rule, each_pair_keeps_rule}
use Rattle.versions.specs.Table.{elem, table_keeps_rule}
use Rattle.versions.specs.Words.{entries_where, word_where}
use Rattle.versions.proofs.Bits.{word_same, entries-same}
use Rattle.versions.proofs.Members.{elem-where}
use Rattle.versions.proofs.Repeated.{pairs?, paired-inserted, its-members, paired-append}
use Rattle.attempt.specs.Limits.{max_id}
use Rattle.attempt.specs.OwnList.{may_be_answered, own_list, word_for, rows_for}
use Rattle.attempt.specs.Start.{input_of, start_rules}

-- Nothing is barred: each as it was before C-17
module _ (pairs : List (List ℕ)) where
  pub answered-as-before : (attempted v : ℕ) →
      may_be_answered pairs [] attempted v ≡ (eqb v attempted || paired pairs attempted v)
  unfolding may_be_answered paired
  answered-as-before attempted v = ap (λ (b : Bool). eqb v attempted || b) (and-true (paired pairs attempted v))

  pub own-list-as-before : (table : List ℕ) (attempted : ℕ) →
      own_list table pairs [] attempted ≡ entries_where (λ v. eqb v attempted || paired pairs attempted v) table
  unfolding own_list
  own-list-as-before table attempted =
      entries-same (may_be_answered pairs [] attempted) (λ v. eqb v attempted || paired pairs attempted v)
      (answered-as-before attempted) table

  pub word-as-before : (table : List ℕ) (attempted : ℕ) →
      word_for table pairs [] attempted ≡ word_where (λ v. eqb v attempted || paired pairs attempted v) table
  unfolding word_for
  word-as-before table attempted =
      word_same (may_be_answered pairs [] attempted) (λ v. eqb v attempted || paired pairs attempted v)
      (answered-as-before attempted) table

  pub rows-as-before-none : (table : List ℕ) → rows_for [] table pairs [] ≡ []
  unfolding rows_for
  rows-as-before-none table = refl

  pub rows-as-before : (v : ℕ) (vs table : List ℕ) →
      rows_for (v ∷ vs) table pairs [] ≡ word_where (λ t. eqb t v || paired pairs v t) table ∷ rows_for vs table pairs []
  unfolding rows_for
  rows-as-before v vs table = rw (word-as-before table v)

  -- 41, 43, 44, 45
  pub rules-as-before : (table : List ℕ) (original : ℕ) (destination source : List ℕ) →
      start_rules (input_of table pairs [] original destination source) ≡
      (41 when not (table_keeps_rule table)) ∷
      (43 when not (pairs_keep_rule pairs)) ∷
      (44 when not (elem original table)) ∷
      (45 when ltb max_id (length destination) || ltb max_id (length source)) ∷
      []
  rules-as-before table original destination source =
      let kept : pairs_keep_rule [] ≡ true = unfold pairs_keep_rule each_pair_keeps_rule in refl in
      rw (kept, or-false (not (pairs_keep_rule pairs)))

-- The attempted version may be answered whatever is barred
pub attempted-answered : (pairs barred : List (List ℕ)) (attempted : ℕ) → may_be_answered pairs barred attempted attempted ≡ true
unfolding may_be_answered
attempted-answered pairs barred attempted = rw (eq-eqb attempted attempted refl)

-- A version that is not the attempted one may not be answered where the pair from the attempted one is barred
pub barred-not-answered : (pairs barred : List (List ℕ)) (attempted v : ℕ) → (v ≡ attempted → ⊥) →
    paired barred attempted v ≡ true → may_be_answered pairs barred attempted v ≡ false
unfolding may_be_answered
barred-not-answered pairs barred attempted v other b = rw (ne_eqb v attempted other, b) (and-false (paired pairs attempted v))

-- What may be answered with more pairs barred is a part of what may be answered with fewer
module _ (pairs fewer more : List (List ℕ))
    (within : (a b : ℕ) → paired fewer a b ≡ true → paired more a b ≡ true) where
  pub answered-within : (attempted v : ℕ) → may_be_answered pairs more attempted v ≡ true → may_be_answered pairs fewer attempted v ≡ true
  unfolding may_be_answered
  answered-within attempted v = go (eqb v attempted) (paired pairs attempted v) (paired fewer attempted v) refl
    where
      go : (e p b : Bool) → paired fewer attempted v ≡ b → (e || (p && not (paired more attempted v))) ≡ true → (e || (p && not b)) ≡ true
      go true p b f h = refl
      go false true true f h = absurd (false≢true (ap not (sym (within attempted v f)) ∙ h))
      go false true false f h = refl
      go false false b f h = absurd (false≢true h)

  pub own-list-within : (table : List ℕ) (attempted v : ℕ) →
      elem v (own_list table pairs more attempted) ≡ true → elem v (own_list table pairs fewer attempted) ≡ true
  unfolding own_list
  own-list-within table attempted v h =
      let both = both_true (may_be_answered pairs more attempted v) _ (sym (elem-where (may_be_answered pairs more attempted) table v) ∙ h) in
      elem-where (may_be_answered pairs fewer attempted) table v ∙ rw (answered-within attempted v both.0, both.1)

-- so it is where some are added to those that are barred
pub barred-added : (barred others : List (List ℕ)) (a b : ℕ) → paired barred a b ≡ true → paired (barred ++ others) a b ≡ true
barred-added barred others a b h = paired-append barred others a b ∙ rw h

-- Barring a pair that is not there has no effect, at whatever place
pub barred-not-there : (pairs bs cs : List (List ℕ)) (pair : List ℕ) → paired pairs (from_of pair) (to_of pair) ≡ false →
    (attempted v : ℕ) → may_be_answered pairs (bs ++ pair ∷ cs) attempted v ≡ may_be_answered pairs (bs ++ cs) attempted v
unfolding may_be_answered
barred-not-there pairs bs cs pair absent attempted v =
    ap (λ (b : Bool). eqb v attempted || (paired pairs attempted v && not b)) (paired-inserted bs cs pair attempted v) ∙
    ap (λ (b : Bool). eqb v attempted || b) (go (pairs? pair attempted v) refl)
  where
    others : Bool
    others = paired (bs ++ cs) attempted v

    go : (here : Bool) → pairs? pair attempted v ≡ here →
        (paired pairs attempted v && not (here || others)) ≡ (paired pairs attempted v && not others)
    go true e =
        let same = its-members pair attempted v e in
        let none : paired pairs attempted v ≡ false = rw (← same.0, ← same.1) absent in
        rw none
    go false e = refl

-- Barring pairs is leaving them out: the pairs that are not barred, with nothing barred, let the same be answered
unfoldable pub left_of : List (List ℕ) → List (List ℕ) → List (List ℕ)
left_of [] barred = []
left_of (p ∷ ps) barred = cond (paired barred (from_of p) (to_of p)) (left_of ps barred) (p ∷ left_of ps barred)

left-paired : (ps barred : List (List ℕ)) (a b : ℕ) → paired (left_of ps barred) a b ≡ (paired ps a b && not (paired barred a b))
unfolding left_of paired
left-paired [] barred a b = refl
left-paired (p ∷ ps) barred a b = go (paired barred (from_of p) (to_of p)) refl (pairs? p a b) refl (left-paired ps barred a b)
  where
    -- what is barred of the first pair is barred of the two versions, where they are its members
    same : (out : Bool) → paired barred (from_of p) (to_of p) ≡ out → pairs? p a b ≡ true → paired barred a b ≡ out
    same out e f = let is = its-members p a b f in rw (← is.0, ← is.1) e

    go : (out : Bool) → paired barred (from_of p) (to_of p) ≡ out → (here : Bool) → pairs? p a b ≡ here →
        paired (left_of ps barred) a b ≡ (paired ps a b && not (paired barred a b)) →
        paired (cond out (left_of ps barred) (p ∷ left_of ps barred)) a b ≡ ((here || paired ps a b) && not (paired barred a b))
    go true e true f ih = ih ∙ rw (same true e f) (and-false (paired ps a b))
    go true e false f ih = ih
    go false e true f ih = rw (f, same false e f)
    go false e false f ih = rw f ih

pub barring-leaves-out : (pairs barred : List (List ℕ)) (attempted v : ℕ) →
    may_be_answered pairs barred attempted v ≡ may_be_answered (left_of pairs barred) [] attempted v
barring-leaves-out pairs barred attempted v =
    sym
    (answered-as-before (left_of pairs barred) attempted v ∙
    ap (λ (b : Bool). eqb v attempted || b) (left-paired pairs barred attempted v) ∙
    unfold may_be_answered in refl)
