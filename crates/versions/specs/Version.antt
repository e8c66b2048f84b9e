-- A version is a number of 32 bits.
use Rattle.std.specs.Prelude.{ℕ, ◌/◌, ◌%◌, Bool, not, ◌&&◌, eqb}

-- The low half of the byte of v that begins at a power of 256 is 10
abbrev pub low_half_ten : ℕ → ℕ → Bool
low_half_ten power v = eqb (v / power % 16) 10

-- Document 01: "A version is reserved when the low half of each of its four bytes is 10 (0x?a?a?a?a, RFC 9000
-- section 15)"
unfoldable pub reserved : ℕ → Bool
reserved v = low_half_ten 0x1 v && (low_half_ten 0x100 v && (low_half_ten 0x10000 v && low_half_ten 0x1000000 v))

-- What a table or a pair may hold. Document 01: "none 0, none reserved"; "no member 0 or reserved"
unfoldable pub usable : ℕ → Bool
usable v = not (eqb v 0) && not (reserved v)
