-- Document 01: "Its own list is every table entry, in table order, that is the attempted version or is paired from
-- it." Document 02, C-17: "The own list leaves barred ones out". As a list, and as the record keeps it: a word for each
-- table entry, bit j for table entry j.
use Rattle.std.specs.Prelude.{ℕ, Bool, cond, not, ◌&&◌, ◌||◌, List, [], ◌∷◌, eqb}
use Rattle.versions.specs.Pairs.{paired}
use Rattle.versions.specs.Words.{entries_where, word_where, members}

-- "is the attempted version or is paired from it", and, of what is paired, that pair is not among those "barred for this
-- attempt's flights". Barred pairs, as pairs, are neither turned round nor chained
unfoldable pub may_be_answered : List (List ℕ) → List (List ℕ) → ℕ → ℕ → Bool
may_be_answered pairs barred attempted v =
    eqb v attempted || (paired pairs attempted v && not (paired barred attempted v))

-- The own list for an attempted version, from the table, the pairs and the barred pairs
unfoldable pub own_list : List ℕ → List (List ℕ) → List (List ℕ) → ℕ → List ℕ
own_list table pairs barred attempted = entries_where (may_be_answered pairs barred attempted) table

-- The word for an attempted version: bit j tells whether table entry j may be answered
unfoldable pub word_for : List ℕ → List (List ℕ) → List (List ℕ) → ℕ → ℕ
word_for table pairs barred attempted = word_where (may_be_answered pairs barred attempted) table

-- The words of all table entries, in table order
unfoldable pub rows_for : List ℕ → List ℕ → List (List ℕ) → List (List ℕ) → List ℕ
rows_for [] table pairs barred = []
rows_for (v ∷ vs) table pairs barred = word_for table pairs barred v ∷ rows_for vs table pairs barred

-- The word of a version: that of its first place in the table, 0 where it has none
unfoldable pub word_of : List ℕ → List ℕ → ℕ → ℕ
word_of [] rows v = 0
word_of (t ∷ table) [] v = 0
word_of (t ∷ table) (w ∷ rows) v = cond (eqb t v) w (word_of table rows v)

-- The own list for a version, read from a table and the words of its entries
abbrev pub own_in : List ℕ → List ℕ → ℕ → List ℕ
own_in table rows v = members (word_of table rows v) table
