-- The place that the choice from a list is about.
use Rattle.std.specs.Prelude.{ℕ, suc, cond, ltb, List, [], ◌∷◌, length, Option, None, Some}
use Rattle.versions.specs.Table.{elem}

-- Document 01, "From a list": "The first entry of the table that occurs in the list". Its place, counted from 0; the
-- table's length where no entry occurs
unfoldable pub first_place : List ℕ → List ℕ → ℕ
first_place [] list = 0
first_place (v ∷ table) list = cond (elem v list) 0 (suc (first_place table list))

-- The same place as an Option: none where no entry occurs
unfoldable pub place_found : List ℕ → List ℕ → Option ℕ
place_found table list = cond (ltb (first_place table list) (length table)) (Some (first_place table list)) None
