-- The limit of variable-length integers.
use Rattle.std.specs.Prelude.{ℕ, ◌-◌, ◌^◌}

-- Document 02, C-11: "83 an integer over 2^62 minus 1 to write"
abbrev pub max_integer : ℕ
max_integer = 2 ^ 62 - 1
