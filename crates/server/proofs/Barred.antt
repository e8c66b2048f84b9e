-- Barred versions. Document 02, C-17: "With nothing barred all of P1 to P12 stand." What reads them says with nothing barred
-- what it said before there were any; the earlier right-hand sides are written out. Then the laws: a barred version is used
-- only as Chosen, and only whether a version is among them matters.
use Prim.Native.Nat.{ℕ}
use mathlib.Core.Bool.{Bool, true, false, cond, not, ◌&&◌, ◌||◌, and-true, or-false, false≢true}
use mathlib.Core.List.{List, [], ◌∷◌}
use mathlib.Core.Path.{◌≡◌, refl, sym, ap, ◌∙◌}
use native.Mathlib.Omega.{arith}
use Rattle.std.proofs.Common.{tests}
use lib.Dec.{eqb}
use borrow.Author.Tests.{eqb-true}
use Rattle.refusals.specs.Reply.{Reply.answered}
use Rattle.refusals.specs.Rule.{Rule.◌when◌}
use Rattle.refusals.proofs.Rules.{both_true}
use Rattle.versions.specs.Pairs.{paired, pairs_keep_rule}
use Rattle.versions.specs.Table.{elem, table_keeps_rule}
use Rattle.information.specs.Presence.{Presence.Missing}
use Rattle.server.specs.FirstFlight.{Act.negotiate, Act.use-version, server_rules, may_use, first_accepted, with_information}

-- Nothing is barred: each as it was before C-17
module _ (pairs : List (List ℕ)) (chosen : ℕ) (available : List ℕ) where
  pub use-as-before : (v : ℕ) →
      may_use pairs [] chosen available v ≡ (elem v available && (eqb v chosen || paired pairs chosen v))
  unfolding may_use elem
  use-as-before v = ap (λ (b : Bool). elem v available && (eqb v chosen || b)) (and-true (paired pairs chosen v))

  pub accepted-as-before-none : first_accepted [] pairs [] chosen available ≡ negotiate
  unfolding first_accepted
  accepted-as-before-none = refl

  pub accepted-as-before : (v : ℕ) (accepted : List ℕ) →
      first_accepted (v ∷ accepted) pairs [] chosen available ≡
      cond (elem v available && (eqb v chosen || paired pairs chosen v)) (use-version v) (first_accepted accepted pairs [] chosen available)
  unfolding first_accepted
  accepted-as-before v accepted = rw (use-as-before v)

-- 41, 43
pub rules-as-before : (readable accepted : List ℕ) (pairs : List (List ℕ)) →
    server_rules readable accepted pairs [] ≡
    (41 when not (table_keeps_rule readable) || not (table_keeps_rule accepted)) ∷ (43 when not (pairs_keep_rule pairs)) ∷ []
rules-as-before readable accepted pairs = rw (or-false (not (pairs_keep_rule pairs)))

-- Where information is missing they have no effect
pub missing-not-barred : (accepted : List ℕ) (pairs : List (List ℕ)) (barred : List ℕ) (version : ℕ) (information : List ℕ) →
    with_information accepted pairs barred version Missing information ≡
    answered (cond (elem version accepted) (use-version version) negotiate)
missing-not-barred accepted pairs barred version information = refl

-- A barred version that is used is Chosen
module _ (pairs : List (List ℕ)) (barred : List ℕ) (chosen : ℕ) (available : List ℕ) (v : ℕ) (among : elem v barred ≡ true) where
  use-is-chosen : may_use pairs barred chosen available v ≡ true → v ≡ chosen
  unfolding may_use
  use-is-chosen h = grind (arith, tests)

  pub barred-only-chosen : (accepted : List ℕ) → first_accepted accepted pairs barred chosen available ≡ use-version v → v ≡ chosen
  unfolding first_accepted
  barred-only-chosen [] h = grind arith
  barred-only-chosen (w ∷ accepted) h = grind (arith, barred-only-chosen accepted, use-is-chosen)

-- Lists that bar the same versions, whatever their order and however often: the same is used
module _ (pairs : List (List ℕ)) (chosen : ℕ) (available bs cs : List ℕ) (same : (v : ℕ) → elem v bs ≡ elem v cs) where
  pub accepted-same : (accepted : List ℕ) → first_accepted accepted pairs bs chosen available ≡ first_accepted accepted pairs cs chosen available
  unfolding first_accepted may_use
  accepted-same [] = refl
  accepted-same (v ∷ accepted) = rw (same v, accepted-same accepted)
