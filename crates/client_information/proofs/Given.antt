-- Those that are given, one by one: at each place i the rest `drop i given` answers for the whole. Each definition over them
-- is read here at such a rest: what its first one decides, what it leaves, and the end.
use Prim.Native.Nat.{ℕ, ◌+◌, ◌≤◌, ◌<◌}
use mathlib.Core.Bool.{Bool, true, false, cond, not, ◌&&◌, ◌||◌}
use mathlib.Core.List.{List, [], ◌∷◌}
use Rattle.std.specs.Prelude.{Some, None}
use mathlib.Core.Path.{◌≡◌, refl, ap, ◌∙◌}
use lib.Dec.{eqb, ltb}
use lib.ListN.{length, drop, get_or, drop_of_length-le}
use borrow.Author.Tests.{eq-eqb, ne_eqb, lt-ltb, le-ltb}
use Rattle.std.specs.List.{list_any}
use Rattle.versions.specs.Version.{reserved}
use Rattle.versions.proofs.Lists.{drop-next}
use Rattle.attempt.specs.AsSent.{number_in, place_in, given_for, is_taken, each_given_keeps_rule}

-- The one at a place
abbrev one_at : List (List ℕ) → ℕ → List ℕ
one_at given i = get_or given i []

-- `given_for` a place
module _ (place : ℕ) (given : List (List ℕ)) (i : ℕ) where
  pub given-here : i < length given → place_in (one_at given i) ≡ place → given_for (drop i given) place ≡ Some (number_in (one_at given i))
  unfolding given_for
  given-here h e = rw (drop-next given i [] h, eq-eqb _ _ e)

  pub given-next : i < length given → (place_in (one_at given i) ≡ place → ⊥) → given_for (drop i given) place ≡ given_for (drop (i + 1) given) place
  unfolding given_for
  given-next h e = rw (drop-next given i [] h, ne_eqb _ _ e)

  pub given-end : length given ≤ i → given_for (drop i given) place ≡ None
  unfolding given_for
  given-end h = rw (drop_of_length-le given h)

-- `is_taken`: any other has its number or its place
pub taken_any : (one : List ℕ) (given : List (List ℕ)) →
    is_taken one given ≡ list_any (λ other. eqb (number_in other) (number_in one) || eqb (place_in other) (place_in one)) given
unfolding is_taken
taken_any one [] = refl
taken_any one (other ∷ given) =
    ap (λ b. (eqb (number_in other) (number_in one) || eqb (place_in other) (place_in one)) || b) (taken_any one given)

-- `each_given_keeps_rule` for a list of so many entries: the tests of the one at the loop's place, in their order
module _ (count : ℕ) (given : List (List ℕ)) (i : ℕ) (here : i < length given) where
  first-keeps :
      each_given_keeps_rule count (drop i given) ≡
      ((reserved (number_in (one_at given i)) && (ltb (place_in (one_at given i)) count && not (is_taken (one_at given i) (drop (i + 1) given)))) &&
      each_given_keeps_rule count (drop (i + 1) given))
  unfolding each_given_keeps_rule
  first-keeps = rw (drop-next given i [] here)

  pub keeps-not-reserved : reserved (number_in (one_at given i)) ≡ false → each_given_keeps_rule count (drop i given) ≡ false
  keeps-not-reserved e = first-keeps ∙ rw e

  module _ (is_one : reserved (number_in (one_at given i)) ≡ true) where
    pub keeps-past-end : count ≤ place_in (one_at given i) → each_given_keeps_rule count (drop i given) ≡ false
    keeps-past-end e = first-keeps ∙ rw (is_one, le-ltb _ _ e)

    module _ (inside : place_in (one_at given i) < count) where
      pub keeps-twice : is_taken (one_at given i) (drop (i + 1) given) ≡ true → each_given_keeps_rule count (drop i given) ≡ false
      keeps-twice e = first-keeps ∙ rw (is_one, lt-ltb _ _ inside, e)

      pub keeps-next :
          is_taken (one_at given i) (drop (i + 1) given) ≡ false →
          each_given_keeps_rule count (drop i given) ≡ each_given_keeps_rule count (drop (i + 1) given)
      keeps-next e = first-keeps ∙ rw (is_one, lt-ltb _ _ inside, e)

pub keeps-end : (count : ℕ) (given : List (List ℕ)) (i : ℕ) → length given ≤ i → each_given_keeps_rule count (drop i given) ≡ true
unfolding each_given_keeps_rule
keeps-end count given i h = rw (drop_of_length-le given h)
