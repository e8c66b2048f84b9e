-- What decides a start is which pairs there are, not how they stand. Document 01: "a repeated pair is harmless". A start
-- with a pair or a barred pair put in again, at any place, hands back the same record and the same answer, the limit of
-- pairs aside; so every event after it does the same.
use Prim.Native.Nat.{ℕ, ◌≤◌}
use mathlib.Core.Bool.{Bool, true, not, ◌&&◌, ◌||◌}
use mathlib.Core.List.{List, [], ◌∷◌, ◌++◌}
use mathlib.Core.Path.{◌≡◌, refl, ap}
use lib.Dec.{eqb}
use lib.ListN.{length}
use Rattle.versions.specs.Limits.{max_pairs}
use Rattle.versions.specs.Pairs.{from_of, to_of, paired}
use Rattle.versions.proofs.Bits.{word_same, entries-same}
use Rattle.versions.proofs.Repeated.{pair-repeated, rule-repeated}
use Rattle.attempt.specs.OwnList.{may_be_answered, own_list, word_for, rows_for}
use Rattle.attempt.specs.Start.{input_of, start_of, opened}

-- Pairs and barred pairs by which the same versions may be answered: own lists and words are the same
module _ (ps bs qs cs : List (List ℕ))
    (same : (attempted v : ℕ) → may_be_answered ps bs attempted v ≡ may_be_answered qs cs attempted v) where
  pub same-own-list : (table : List ℕ) (attempted : ℕ) → own_list table ps bs attempted ≡ own_list table qs cs attempted
  unfolding own_list
  same-own-list table attempted = entries-same (may_be_answered ps bs attempted) (may_be_answered qs cs attempted) (same attempted) table

  same_word : (table : List ℕ) (attempted : ℕ) → word_for table ps bs attempted ≡ word_for table qs cs attempted
  unfolding word_for
  same_word table attempted = word_same (may_be_answered ps bs attempted) (may_be_answered qs cs attempted) (same attempted) table

  pub same_rows : (vs table : List ℕ) → rows_for vs table ps bs ≡ rows_for vs table qs cs
  unfolding rows_for
  same_rows [] table = refl
  same_rows (v ∷ vs) table = rw (same_word table v, same_rows vs table)

module _ (ps qs : List (List ℕ)) (pair : List ℕ)
    -- a pair with these members is there already
    (there : paired (ps ++ qs) (from_of pair) (to_of pair) ≡ true) where
  same-answered : (barred : List (List ℕ)) (attempted v : ℕ) →
      may_be_answered (ps ++ pair ∷ qs) barred attempted v ≡ may_be_answered (ps ++ qs) barred attempted v
  unfolding may_be_answered
  same-answered barred attempted v =
      ap (λ (b : Bool). eqb v attempted || (b && not (paired barred attempted v))) (pair-repeated ps qs pair there attempted v)

  same-barred : (pairs : List (List ℕ)) (attempted v : ℕ) →
      may_be_answered pairs (ps ++ pair ∷ qs) attempted v ≡ may_be_answered pairs (ps ++ qs) attempted v
  unfolding may_be_answered
  same-barred pairs attempted v =
      ap (λ (b : Bool). eqb v attempted || (paired pairs attempted v && not b)) (pair-repeated ps qs pair there attempted v)

  pub own-list-repeated : (table : List ℕ) (barred : List (List ℕ)) (attempted : ℕ) →
      own_list table (ps ++ pair ∷ qs) barred attempted ≡ own_list table (ps ++ qs) barred attempted
  own-list-repeated table barred = same-own-list (ps ++ pair ∷ qs) barred (ps ++ qs) barred (same-answered barred) table

  pub start-repeated : (table : List ℕ) (barred : List (List ℕ)) (original : ℕ) (destination source : List ℕ) →
      length (ps ++ pair ∷ qs) ≤ max_pairs →
      start_of (input_of table (ps ++ pair ∷ qs) barred original destination source) ≡
      start_of (input_of table (ps ++ qs) barred original destination source)
  unfolding start_of opened
  start-repeated table barred original destination source fits =
      rw (
        rule-repeated ps qs pair there fits,
        same_rows (ps ++ pair ∷ qs) barred (ps ++ qs) barred (same-answered barred) table table,
      )

  -- the same of a barred pair
  pub start-barred-repeated : (table : List ℕ) (pairs : List (List ℕ)) (original : ℕ) (destination source : List ℕ) →
      length (ps ++ pair ∷ qs) ≤ max_pairs →
      start_of (input_of table pairs (ps ++ pair ∷ qs) original destination source) ≡
      start_of (input_of table pairs (ps ++ qs) original destination source)
  unfolding start_of opened
  start-barred-repeated table pairs original destination source fits =
      rw (
        rule-repeated ps qs pair there fits,
        same_rows pairs (ps ++ pair ∷ qs) pairs (ps ++ qs) (same-barred pairs) table table,
      )
