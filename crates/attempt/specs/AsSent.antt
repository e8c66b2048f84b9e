-- The own list as sent. Document 02, C-18: "The client's list may be sent with up to four distinct reserved numbers, each at
-- a place the caller gives"; "Places are counted from 0 in the list as sent." One that is given is a list of two numbers:
-- the reserved number, and its place.
use Rattle.std.specs.Prelude.{ℕ, zero, suc, ◌+◌, Bool, true, false, cond, not, ◌&&◌, ◌||◌, List, [], ◌∷◌, eqb, leb, ltb, length, get_or, drop}
use Rattle.std.specs.Prelude.{Option, None, Some}
use Rattle.versions.specs.Limits.{max_reserved}
use Rattle.versions.specs.Version.{reserved}

abbrev pub number_in : List ℕ → ℕ
number_in one = get_or one 0 0

abbrev pub place_in : List ℕ → ℕ
place_in one = get_or one 1 0

-- The number that is given for a place, if there is one
unfoldable pub given_for : List (List ℕ) → ℕ → Option ℕ
given_for [] place = None
given_for (one ∷ given) place = cond (eqb (place_in one) place) (Some (number_in one)) (given_for given place)

-- What stands at a place: the number that is given for it, else the next version of the own list
abbrev pub sent_at : Option ℕ → List ℕ → ℕ
sent_at (Some number) own = number
sent_at None own = get_or own 0 0

-- The own list from there on
abbrev pub own_after : Option ℕ → List ℕ → List ℕ
own_after (Some number) own = own
own_after None own = drop 1 own

-- The list from a place on, so many entries of it
unfoldable pub sent_from : ℕ → ℕ → List ℕ → List (List ℕ) → List ℕ
sent_from zero place own given = []
sent_from (suc count) place own given =
    sent_at (given_for given place) own ∷ sent_from count (suc place) (own_after (given_for given place) own) given

-- How many entries it has: all own ones and all that are given
abbrev pub sent_count : List ℕ → List (List ℕ) → ℕ
sent_count own given = length own + length given

-- The whole list: each number at its place, the own versions fill the rest in their order
unfoldable pub list_as_sent : List ℕ → List (List ℕ) → List ℕ
list_as_sent own given = sent_from (sent_count own given) 0 own given

-- "repeated", "a place is taken twice": another has its number or its place
unfoldable pub is_taken : List ℕ → List (List ℕ) → Bool
is_taken one [] = false
is_taken one (other ∷ given) =
    (eqb (number_in other) (number_in one) || eqb (place_in other) (place_in one)) || is_taken one given

-- "a number is not reserved", a place is "past the end" of a list of so many entries
unfoldable pub each_given_keeps_rule : ℕ → List (List ℕ) → Bool
each_given_keeps_rule count [] = true
each_given_keeps_rule count (one ∷ given) =
    (reserved (number_in one) && (ltb (place_in one) count && not (is_taken one given))) && each_given_keeps_rule count given

-- The rule of those that are given for a list of so many entries: "Where a number is not reserved, .. repeated, or there are
-- over four, or a place is taken twice or past the end" it is broken
unfoldable pub given_keep_rule : ℕ → List (List ℕ) → Bool
given_keep_rule count given = leb (length given) max_reserved && each_given_keeps_rule count given
