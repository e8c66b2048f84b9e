-- Tests as numbers.
use Rattle.std.specs.Prelude.{ℕ, Bool, true, false}

-- The number for what no caller may hand over
abbrev pub not_valid : ℕ
not_valid = 255

-- A test as a number
abbrev pub flag : Bool → ℕ
flag false = 0
flag true = 1
