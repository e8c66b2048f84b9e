-- Versions on the wire. Document 01: "Numbers are big endian", a version is 4 bytes, a list of versions is its
-- entries one after the other.
use Rattle.std.specs.Prelude.{ℕ, zero, suc, ◌+◌, ◌*◌, ◌/◌, ◌%◌, Bool, true, cond, ◌&&◌, List, [], ◌∷◌, ◌++◌, leb, ltb, length, drop, get_or}
use Rattle.std.specs.Prelude.{Option, None, Some}

-- How many bytes a version takes
abbrev pub version_bytes : ℕ
version_bytes = 4

-- Four bytes as a number
abbrev pub number : ℕ → ℕ → ℕ → ℕ → ℕ
number a b c d = a * 0x1000000 + (b * 0x10000 + (c * 0x100 + d))

-- The number whose four bytes begin at a place; bytes past the end count as 0
abbrev pub number_at : List ℕ → ℕ → ℕ
number_at bytes at = number (get_or bytes at 0) (get_or bytes (at + 1) 0) (get_or bytes (at + 2) 0) (get_or bytes (at + 3) 0)

-- The number of the same four bytes in the other order, as a little-endian machine reads them by one load
unfoldable pub turned : ℕ → ℕ
turned v = number (v % 256) (v / 0x100 % 256) (v / 0x10000 % 256) (v / 0x1000000)

-- The entries of a list on the wire: whole fours; 1 to 3 bytes left over are no entry
unfoldable pub entries : List ℕ → List ℕ
entries [] = []
entries (a ∷ []) = []
entries (a ∷ b ∷ []) = []
entries (a ∷ b ∷ c ∷ []) = []
entries (a ∷ b ∷ c ∷ d ∷ rest) = number a b c d ∷ entries rest

-- A number as its four bytes
abbrev pub bytes_of : ℕ → List ℕ
bytes_of v = v / 0x1000000 % 256 ∷ v / 0x10000 % 256 ∷ v / 0x100 % 256 ∷ v % 256 ∷ []

-- A list of versions as its bytes
unfoldable pub list_bytes : List ℕ → List ℕ
list_bytes [] = []
list_bytes (v ∷ vs) = bytes_of v ++ list_bytes vs

-- Every number of the list is below a bound: of a list of bytes 256, of a list of versions 2 ^ 32. A slice of numbers
-- tells it of its elements; a theorem about lists alone has to ask it
unfoldable pub all_below : ℕ → List ℕ → Bool
all_below bound [] = true
all_below bound (x ∷ xs) = ltb x bound && all_below bound xs

-- The entry at a place, counted from 0, if there is one
unfoldable pub entry_at : List ℕ → ℕ → Option ℕ
entry_at [] place = None
entry_at (v ∷ vs) zero = Some v
entry_at (v ∷ vs) (suc place) = entry_at vs place

-- The buffer after a list was put at its front: whole where there is room, else as found
abbrev pub after_put : List ℕ → List ℕ → List ℕ
after_put versions buffer =
    cond (leb (version_bytes * length versions) (length buffer))
    (list_bytes versions ++ drop (version_bytes * length versions) buffer) buffer

-- The places after values were put at their front: whole where there is room, else as found
abbrev pub after_values : {A : Type 0} → List A → List A → List A
after_values values places = cond (leb (length values) (length places)) (values ++ drop (length values) places) places
