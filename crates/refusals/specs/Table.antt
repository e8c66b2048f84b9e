-- Document 01, "When the desk says no": each number of the table, with its close code where what was read
-- from the peer is refused. A row of the paper with no close code, or with a state in its place, has `None`.
-- Document 02: "New numbers, here and later, join document 01's table without a close code, but this reader's have 0x08":
-- 20 of C-13 has none, nor have 28 and 47 of C-18; of C-11's, 80, 81, 82 and 85 are the reader's.
use Rattle.std.specs.Prelude.{ℕ, List, [], ◌∷◌, Option, Some, None}

pub data Row : Type 0 where
  row : ℕ → Option ℕ → Row

unfoldable pub table : List Row
table =
    row 11 None ∷
    row 12 None ∷
    row 13 None ∷
    row 20 None ∷
    row 21 None ∷
    row 22 None ∷
    row 23 None ∷
    row 24 None ∷
    row 25 None ∷
    row 26 None ∷
    row 28 None ∷
    row 31 (Some 0x08) ∷
    row 32 (Some 0x08) ∷
    row 33 (Some 0x08) ∷
    row 34 (Some 0x08) ∷
    row 35 (Some 0x08) ∷
    row 36 (Some 0x08) ∷
    row 37 None ∷
    row 40 None ∷
    row 41 None ∷
    row 42 None ∷
    row 43 None ∷
    row 44 None ∷
    row 45 None ∷
    row 47 None ∷
    row 51 (Some 0x11) ∷
    row 61 None ∷
    row 62 None ∷
    row 63 None ∷
    row 64 None ∷
    row 65 None ∷
    row 71 (Some 0x11) ∷
    row 72 (Some 0x11) ∷
    row 73 (Some 0x11) ∷
    row 74 (Some 0x11) ∷
    row 75 (Some 0x11) ∷
    row 80 (Some 0x08) ∷
    row 81 (Some 0x08) ∷
    row 82 (Some 0x08) ∷
    row 83 None ∷
    row 84 None ∷
    row 85 (Some 0x08) ∷
    []

unfoldable pub numbers_of : List Row → List ℕ
numbers_of [] = []
numbers_of (row n c ∷ rs) = n ∷ numbers_of rs

-- The table's numbers, in its order
unfoldable pub numbers : List ℕ
numbers = numbers_of table
