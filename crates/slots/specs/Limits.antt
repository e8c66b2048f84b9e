-- The numbers of the search by slots. No paper has them, and no public promise speaks of them: a search with others
-- answers the same.
use Rattle.std.specs.Prelude.{ℕ}

-- How many slots there are
abbrev pub slot_count : ℕ
slot_count = 4096

-- How many entries of the list are looked up at a time
abbrev pub group : ℕ
group = 16
