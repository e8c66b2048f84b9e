-- Sets of table entries as words. Document 02, C-15: "Each place of the table is a bit"; bit j of a word tells whether
-- table entry j is in the set.
use Rattle.std.specs.Prelude.{ℕ, zero, suc, ◌+◌, ◌*◌, ◌/◌, ◌%◌, Bool, true, false, cond, ◌||◌, List, [], ◌∷◌, eqb}
use Rattle.versions.specs.Pairs.{paired}

-- The bits of a word
abbrev pub word_bits : ℕ
word_bits = 64

-- Whether bit j of a word is set; bit 0 is the lowest
abbrev pub bit_at : ℕ → ℕ → Bool
bit_at word zero = eqb (word % 2) 1
bit_at word (suc j) = bit_at (word / 2) j

-- A bit as a number
abbrev pub bit : Bool → ℕ
bit true = 1
bit false = 0

-- A list with an entry in front, where a test holds of it
abbrev pub keep_if : Bool → ℕ → List ℕ → List ℕ
keep_if true v vs = v ∷ vs
keep_if false v vs = vs

-- The table entries that a test holds of, in table order
unfoldable pub entries_where : (ℕ → Bool) → List ℕ → List ℕ
entries_where test [] = []
entries_where test (v ∷ table) = keep_if (test v) v (entries_where test table)

-- The word of the table entries that a test holds of
unfoldable pub word_where : (ℕ → Bool) → List ℕ → ℕ
word_where test [] = 0
word_where test (v ∷ table) = bit (test v) + 2 * word_where test table

-- The table entries whose bit is set in a word. A bit at or past the table's length is that of no entry
unfoldable pub members : ℕ → List ℕ → List ℕ
members word [] = []
members word (v ∷ table) = keep_if (bit_at word 0) v (members (word / 2) table)

-- The word of the table entries that are v or are paired from it. A private function of the server's choice promises it
abbrev pub word_from : List ℕ → List (List ℕ) → ℕ → ℕ
word_from table pairs v = word_where (λ t. eqb t v || paired pairs v t) table

-- The word with the bit set of v's first place in the table; the word itself where it has none
unfoldable pub marked : List ℕ → ℕ → ℕ → ℕ
marked [] v word = word
marked (t ∷ table) v word = cond (eqb t v) (1 + 2 * (word / 2)) (word % 2 + 2 * marked table v (word / 2))
