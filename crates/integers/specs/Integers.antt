-- Variable-length integers: RFC 9000 section 16, document 02, C-11. A form is the number in the two highest bits of the
-- first byte, 0 to 3; the word is ours.
use Rattle.std.specs.Prelude.{ℕ, zero, suc, ◌+◌, ◌-◌, ◌*◌, ◌/◌, ◌%◌, ◌^◌, cond, List, [], ◌∷◌, ltb, length, get_or}
use Rattle.std.proofs.Math.Seq.{slice}
use Rattle.refusals.specs.Reply.{Reply, Reply.answered}
use Rattle.refusals.specs.Rule.{Rule, Rule.◌when◌, judged}
use Rattle.refusals.specs.declared.Call.TheVariants.{Reading, Writing}
use Rattle.integers.specs.Limits.{max_integer}
use Rattle.integers.specs.declared.Integer.{Integer}

-- "the two most significant bits of the first byte to encode the base-2 logarithm of the integer encoding length in
-- bytes"
unfoldable pub width_of : ℕ → ℕ
width_of form = 2 ^ form

-- The width that the first byte tells; that of 0 where there is none
abbrev pub width_at : List ℕ → ℕ
width_at bytes = width_of (get_or bytes 0 0 / 64)

-- "in network byte order": what further bytes make of the number before them
unfoldable pub from_bytes : ℕ → List ℕ → ℕ
from_bytes before [] = before
from_bytes before (b ∷ bs) = from_bytes (before * 256 + b) bs

-- "The integer value is encoded on the remaining bits"
unfoldable pub value_at : List ℕ → ℕ → ℕ
value_at bytes width = from_bytes (get_or bytes 0 0 % 64) (slice 1 width bytes)

-- What the reader answers: the value, and the bytes that it takes
abbrev pub Found : Type 0
Found = Integer

-- "81 a field runs past the end"
abbrev pub integer_rules : List ℕ → List Rule
integer_rules bytes = (81 when ltb (length bytes) (width_at bytes)) ∷ []

-- "The reader takes any of the four widths"
unfoldable pub read_integer : List ℕ → Reply Found
read_integer bytes =
    judged Reading (integer_rules bytes)
    (answered (record { value = value_at bytes (width_at bytes); width = width_at bytes }))

-- A form holds the integers below this: its width has all bits of its bytes but two
unfoldable pub held_below : ℕ → ℕ
held_below form = 64 * 256 ^ (width_of form - 1)

-- The last n bytes of v, highest first
unfoldable pub low_bytes : ℕ → ℕ → List ℕ
low_bytes zero v = []
low_bytes (suc n) v = (v / 256 ^ n % 256) ∷ low_bytes n v

-- An integer in the width of a form, whose number stands in the two highest bits
unfoldable pub integer_bytes : ℕ → ℕ → List ℕ
integer_bytes form v = (form * 64 + v / 256 ^ (width_of form - 1)) ∷ low_bytes (width_of form - 1) v

-- "the shortest form that holds it"; where none does, the last
unfoldable pub shortest : ℕ → ℕ
shortest v = cond (ltb v (held_below 0)) 0 (cond (ltb v (held_below 1)) 1 (cond (ltb v (held_below 2)) 2 3))

unfoldable pub shortest_width : ℕ → ℕ
shortest_width v = width_of (shortest v)

unfoldable pub shortest_bytes : ℕ → List ℕ
shortest_bytes v = integer_bytes (shortest v) v

-- "83 an integer over 2^62 minus 1 to write, 84 no room"
abbrev pub write_rules : ℕ → ℕ → List Rule
write_rules v room = (83 when ltb max_integer v) ∷ (84 when ltb room (shortest_width v)) ∷ []

-- The bytes to write into a buffer that has room for so many bytes
unfoldable pub integer_to_write : ℕ → ℕ → Reply (List ℕ)
integer_to_write v room = judged Writing (write_rules v room) (answered (shortest_bytes v))
