-- The limits of tables, each named once. A proof holds for the name, not for the number.
use Rattle.std.specs.Prelude.{ℕ}

-- Document 01: "A table of versions has 1 to 16 entries". Document 02, C-14: "Tables go from 16 to 64 entries"
abbrev pub max_table : ℕ
max_table = 64

-- Document 01: "A table of compatible pairs (from, to) has 0 to 64 pairs". Document 02, C-14: "pairs from 64 to 1,024"
abbrev pub max_pairs : ℕ
max_pairs = 1024

-- Document 02, C-18: "up to four distinct reserved numbers"
abbrev pub max_reserved : ℕ
max_reserved = 4
