-- Tables and lists of versions.
use Rattle.std.specs.Prelude.{ℕ, suc, Bool, true, false, cond, not, ◌&&◌, ◌||◌, List, [], ◌∷◌, eqb, leb, length}
use Rattle.std.specs.Prelude.{Option, None, Some, ltb}
use Rattle.versions.specs.Limits.{max_table}
use Rattle.versions.specs.Version.{usable}

-- v occurs in the list
unfoldable pub elem : ℕ → List ℕ → Bool
elem v [] = false
elem v (x ∷ xs) = eqb x v || elem v xs

-- The first place of v in the list, counted from 0; the list's length where it has none
unfoldable pub place_of : ℕ → List ℕ → ℕ
place_of v [] = 0
place_of v (x ∷ xs) = cond (eqb x v) 0 (suc (place_of v xs))

-- The same, and none where v does not occur
abbrev pub place_in : ℕ → List ℕ → Option ℕ
place_in v xs = cond (ltb (place_of v xs) (length xs)) (Some (place_of v xs)) None

-- "none 0, none reserved, none twice"
unfoldable pub entries_keep_rule : List ℕ → Bool
entries_keep_rule [] = true
entries_keep_rule (v ∷ vs) = (usable v && not (elem v vs)) && entries_keep_rule vs

-- Document 01: "A table of versions has 1 to 16 entries, none 0, none reserved, none twice; its order is preference,
-- best first". Document 02, C-14: "Tables go from 16 to 64 entries"
unfoldable pub table_keeps_rule : List ℕ → Bool
table_keeps_rule table = leb 1 (length table) && (leb (length table) max_table && entries_keep_rule table)

-- The versions, where they are such a table
abbrev pub table_if : List ℕ → Option (List ℕ)
table_if versions = cond (table_keeps_rule versions) (Some versions) None
