-- The limits of an attempt, each named once.
use Rattle.std.specs.Prelude.{ℕ}

-- Document 01: "its two connection IDs, destination and source (0 to 20 bytes each; empty or equal ones are allowed)"
abbrev pub max_id : ℕ
max_id = 20

-- The number for a host's record that no start handed back; it is outside document 01's table
abbrev pub not_a_record : ℕ
not_a_record = 255
