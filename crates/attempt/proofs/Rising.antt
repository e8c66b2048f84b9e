-- The numbers of a start's rules and of each event's rise, so the lowest that applies is given. (An ended attempt gives
-- 62 to an outcome before any of its rules: they "are judged on an open attempt only".)
use Prim.Native.Nat.{ℕ}
use mathlib.Core.Bool.{Bool, true, false}
use mathlib.Core.List.{List, [], ◌∷◌, ◌++◌}
use mathlib.Core.Path.{◌≡◌, refl}
use Rattle.refusals.specs.Rule.{Rule.◌when◌, rising}
use Rattle.information.specs.Presence.{Presence, Presence.Missing, Presence.Given}
use Rattle.attempt.specs.Start.{Input, start_rules}
use Rattle.attempt.specs.Step.{datagram_rules, outcome_rules, missing_rules, information_rules}
use Rattle.attempt.specs.declared.Attempt.{Attempt}

-- 41, 43, 44, 45
pub start-rises : (x : Input) → rising (start_rules x) ≡ true
start-rises x = refl

-- 61 to 64; then 65, whenever it is given
pub datagram-rises : (a : Attempt) (datagram : List ℕ) (nothing : Bool) →
    rising (datagram_rules a datagram ++ ((65 when nothing) ∷ [])) ≡ true
datagram-rises a datagram nothing = refl

-- 72 to 75
pub outcome-rises : (a : Attempt) (in_use chosen : ℕ) (available : List ℕ) →
    rising (outcome_rules a in_use chosen available) ≡ true
outcome-rises a in_use chosen available = refl

-- 71 to 75 where the client acted, else 73
pub missing-rises : (acted : Bool) (a : Attempt) (in_use : ℕ) → rising (missing_rules acted a in_use) ≡ true
missing-rises true a in_use = refl
missing-rises false a in_use = refl

-- 31 to 35, 72 to 75 where the information is given
pub information-rises : (a : Attempt) (in_use : ℕ) (presence : Presence) (bytes : List ℕ) →
    rising (information_rules a in_use presence bytes) ≡ true
information-rises a in_use Missing bytes = missing-rises a.acted a in_use
information-rises a in_use Given bytes = refl
