-- Reserved numbers in the client's Available list change nothing at the server (document 02, C-18): for every server, its
-- tables and pairs, and a Chosen Version that is not reserved, the choice after a first flight is the same for two
-- informations that differ by reserved numbers in Available alone.
use Prim.Native.Nat.{ℕ, ◌%◌, ◌^◌, ◌<◌, ◌≤◌}
use mathlib.Core.Bool.{Bool, true, false, not, ◌||◌, or-true}
use mathlib.Core.List.{List, [], ◌∷◌}
use mathlib.Core.Path.{◌≡◌, refl, sym, ap, ◌∙◌}
use native.Mathlib.Omega.{arith}
use lib.Dec.{eqb}
use lib.ListN.{length}
use borrow.Author.Tests.{eq-eqb, le-ltb}
use Rattle.refusals.specs.Rule.{Rule, Rule.◌when◌}
use Rattle.versions.specs.Reserved.{without_reserved}
use Rattle.versions.specs.Table.{elem, table_keeps_rule}
use Rattle.versions.specs.Version.{reserved}
use Rattle.versions.proofs.WithoutReserved.{zero-unreserved, same-without, table-not-reserved}
use Rattle.lists.specs.Wire.{all_below, version_bytes}
use Rattle.lists.proofs.Entries.{number-bytes_of, entries-list_bytes}
use Rattle.information.specs.Information.{chosen_of, available_of, information_bytes}
use Rattle.information.specs.Limits.{max_available, max_information}
use Rattle.information.specs.Presence.{Presence.Given}
use Rattle.information.proofs.Bytes.{length-information}
use Rattle.server.specs.FirstFlight.{may_use, first_accepted, flight_rules, with_information, decide}

-- The bytes are whole versions, and no more than information has: 31 to 33 do not apply
pub record Whole (information : List ℕ) : Type 0 where
  pub least : version_bytes ≤ length information
  pub fours : length information % version_bytes ≡ 0
  pub most : length information ≤ max_information

-- They have one Chosen Version, which is not reserved, and Available lists that differ by reserved numbers alone
pub record DifferByReserved (one other : List ℕ) : Type 0 where
  pub one-whole : Whole one
  pub other-whole : Whole other
  pub same_chosen : chosen_of one ≡ chosen_of other
  pub chosen-unreserved : reserved (chosen_of one) ≡ false
  pub same-available : without_reserved (available_of one) ≡ without_reserved (available_of other)

-- The tests that the reader's rules of whole bytes come to
abbrev whole_rules : Bool → Bool → Bool → Bool → List Rule
whole_rules zero-chosen zero-available lacks other =
    (31 when false) ∷ (32 when false) ∷ (33 when false) ∷ (34 when zero-chosen) ∷ (35 when zero-available) ∷ (36 when lacks) ∷
    (51 when other) ∷ []

flight-whole : (information : List ℕ) (version : ℕ) → Whole information →
    flight_rules information version ≡
    whole_rules (eqb (chosen_of information) 0) (elem 0 (available_of information)) (not (elem (chosen_of information) (available_of information)))
    (not (eqb (chosen_of information) version))
flight-whole information version w =
    rw (le-ltb (length information) version_bytes w.least, eq-eqb _ _ w.fours, le-ltb max_information (length information) w.most)

module _ (one other : List ℕ) (d : DifferByReserved one other) where
  -- a version that is not reserved is available in both, or in neither
  same-elem : (v : ℕ) → reserved v ≡ false → elem v (available_of one) ≡ elem v (available_of other)
  same-elem v h = same-without (available_of one) (available_of other) d.same-available v h

  -- 31 to 36 and 51
  same-rules : (version : ℕ) → flight_rules one version ≡ flight_rules other version
  same-rules version =
      let lacks : elem (chosen_of one) (available_of one) ≡ elem (chosen_of other) (available_of other) =
      same-elem (chosen_of one) d.chosen-unreserved ∙ ap (λ (c : ℕ). elem c (available_of other)) d.same_chosen in
      flight-whole one version d.one-whole ∙
      rw (lacks, same-elem 0 zero-unreserved, d.same_chosen) (sym (flight-whole other version d.other-whole))

  -- the first accepted version that may be used
  same-accepted : (accepted : List ℕ) (pairs : List (List ℕ)) (barred : List ℕ) (chosen : ℕ) →
      ((v : ℕ) → elem v accepted ≡ true → reserved v ≡ false) →
      first_accepted accepted pairs barred chosen (available_of one) ≡ first_accepted accepted pairs barred chosen (available_of other)
  unfolding first_accepted may_use elem
  same-accepted [] pairs barred chosen h = refl
  same-accepted (v ∷ accepted) pairs barred chosen h =
      rw (
        same-elem v (h v (ap (λ (b : Bool). b || elem v accepted) (eq-eqb v v refl))),
        same-accepted accepted pairs barred chosen (λ w e. h w (ap (λ (b : Bool). eqb v w || b) e ∙ or-true (eqb v w))),
      )

  same-with : (accepted : List ℕ) (pairs : List (List ℕ)) (barred : List ℕ) (version : ℕ) → table_keeps_rule accepted ≡ true →
      with_information accepted pairs barred version Given one ≡ with_information accepted pairs barred version Given other
  same-with accepted pairs barred version h =
      rw (
        same-rules version,
        d.same_chosen,
        same-accepted accepted pairs barred (chosen_of other) (λ v e. table-not-reserved accepted v h e),
      )

  -- The choice after a first flight: 41 and 43 are given before the information is read
  pub same-decision : (readable accepted : List ℕ) (pairs : List (List ℕ)) (barred : List ℕ) (version : ℕ) →
      decide readable accepted pairs barred version Given one ≡ decide readable accepted pairs barred version Given other
  unfolding decide
  same-decision readable accepted pairs barred version =
      grind (arith, same-with accepted pairs barred version)

-- The same of two informations by what they say: a Chosen Version that is not reserved, and two Available lists, both
-- within 255 entries
pub reserved-unseen : (readable accepted : List ℕ) (pairs : List (List ℕ)) (barred : List ℕ) (version chosen : ℕ) (available others : List ℕ)
    → length available ≤ max_available → length others ≤ max_available
    → chosen < 2 ^ 32 → all_below (2 ^ 32) available ≡ true → all_below (2 ^ 32) others ≡ true
    → reserved chosen ≡ false → without_reserved available ≡ without_reserved others
    → decide readable accepted pairs barred version Given (information_bytes chosen available)
    ≡ decide readable accepted pairs barred version Given (information_bytes chosen others)
reserved-unseen readable accepted pairs barred version chosen available others few few' below below-a below-o unreserved same =
    same-decision (information_bytes chosen available) (information_bytes chosen others)
    (record {
      one-whole = whole available few;
      other-whole = whole others few';
      same_chosen = is-chosen available ∙ sym (is-chosen others);
      chosen-unreserved = ap reserved (is-chosen available) ∙ unreserved;
      same-available =
          ap without_reserved (entries-list_bytes available below-a) ∙ same ∙
          sym (ap without_reserved (entries-list_bytes others below-o));
    })
    readable accepted pairs barred version
  where
    whole : (l : List ℕ) → length l ≤ max_available → Whole (information_bytes chosen l)
    whole l few =
        let long = length-information chosen l in
        record { least = omega arith; fours = omega arith; most = omega arith }

    is-chosen : (l : List ℕ) → chosen_of (information_bytes chosen l) ≡ chosen
    is-chosen l = number-bytes_of chosen below
