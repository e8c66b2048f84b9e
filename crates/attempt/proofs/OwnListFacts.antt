-- The own list that the record keeps as words is document 01's.
use Prim.Native.Nat.{ℕ, ◌+◌, ◌*◌, ◌≤◌, ◌<◌}
use mathlib.Core.Bool.{Bool, true, false, cond, ◌||◌, false≢true}
use mathlib.Core.List.{List, [], ◌∷◌, ◌++◌}
use mathlib.Core.Path.{◌≡◌, refl, ap}
use lib.Dec.{eqb}
use lib.ListN.{length, get_or}
use borrow.Author.Tests.{eqb-true}
use Rattle.versions.specs.Table.{elem}
use Rattle.versions.specs.Words.{bit_at, bit, keep_if, entries_where, word_where, members}
use Rattle.versions.proofs.Bits.{bit-where, bit_past}
use Rattle.versions.proofs.Members.{members-where}
use Rattle.attempt.specs.OwnList.{may_be_answered, own_list, word_for, rows_for, word_of}

-- Entry by entry: own list and word by their clauses
module _ (pairs barred : List (List ℕ)) (attempted : ℕ) where
  pub own-list-empty : own_list [] pairs barred attempted ≡ []
  unfolding own_list entries_where
  own-list-empty = refl

  pub own-list-entry : (v : ℕ) (table : List ℕ) →
      own_list (v ∷ table) pairs barred attempted ≡ keep_if (may_be_answered pairs barred attempted v) v (own_list table pairs barred attempted)
  unfolding own_list entries_where
  own-list-entry v table = refl

  pub word-empty : word_for [] pairs barred attempted ≡ 0
  unfolding word_for word_where
  word-empty = refl

  pub word-entry : (v : ℕ) (table : List ℕ) →
      word_for (v ∷ table) pairs barred attempted ≡ bit (may_be_answered pairs barred attempted v) + 2 * word_for table pairs barred attempted
  unfolding word_for word_where
  word-entry v table = refl

-- Bit j of an entry's word tells whether table entry j may be answered when that entry is attempted; no bit is set at or
-- past the table's length
module _ (table : List ℕ) (pairs barred : List (List ℕ)) (attempted j : ℕ) where
  pub row-bit : j < length table → bit_at (word_for table pairs barred attempted) j ≡ may_be_answered pairs barred attempted (get_or table j 0)
  unfolding word_for
  row-bit h = bit-where (may_be_answered pairs barred attempted) table j h

  pub row-past : length table ≤ j → bit_at (word_for table pairs barred attempted) j ≡ false
  unfolding word_for
  row-past h = bit_past (may_be_answered pairs barred attempted) table j h

-- The members of the word are the own list
pub members-word : (table : List ℕ) (pairs barred : List (List ℕ)) (v : ℕ) →
    members (word_for table pairs barred v) table ≡ own_list table pairs barred v
unfolding word_for own_list
members-word table pairs barred v = members-where (may_be_answered pairs barred v) table

-- The word of a table entry is the one that was made for it
pub word-of-row : (vs table : List ℕ) (pairs barred : List (List ℕ)) (rest : List ℕ) (v : ℕ) → elem v vs ≡ true →
    word_of vs (rows_for vs table pairs barred ++ rest) v ≡ word_for table pairs barred v
unfolding word_of rows_for elem
word-of-row [] table pairs barred rest v h = absurd (false≢true h)
word-of-row (t ∷ vs) table pairs barred rest v h = go (eqb t v) refl h (word-of-row vs table pairs barred rest v)
  where
    go : (b : Bool) → eqb t v ≡ b → (b || elem v vs) ≡ true →
        (elem v vs ≡ true → word_of vs (rows_for vs table pairs barred ++ rest) v ≡ word_for table pairs barred v) →
        cond b (word_for table pairs barred t) (word_of vs (rows_for vs table pairs barred ++ rest) v) ≡ word_for table pairs barred v
    go true e h ih = ap (word_for table pairs barred) (eqb-true t v e)
    go false e h ih = ih h
