-- Document 01: "a repeated pair is harmless". With a pair put in again, at any place, the server decides the same, the
-- limit of pairs aside.
use Prim.Native.Nat.{ℕ, ◌≤◌}
use mathlib.Core.Bool.{Bool, true, not, ◌&&◌, ◌||◌}
use mathlib.Core.List.{List, [], ◌∷◌, ◌++◌}
use mathlib.Core.Path.{◌≡◌, refl, ap}
use lib.Dec.{eqb}
use lib.ListN.{length}
use Rattle.versions.specs.Limits.{max_pairs}
use Rattle.versions.specs.Pairs.{from_of, to_of, paired}
use Rattle.versions.specs.Table.{elem}
use Rattle.versions.proofs.Repeated.{pair-repeated, rule-repeated}
use Rattle.information.specs.Presence.{Presence, Presence.Missing, Presence.Given}
use Rattle.server.specs.FirstFlight.{may_use, first_accepted, with_information, decide}

module _ (ps qs : List (List ℕ)) (pair : List ℕ)
    -- a pair with these members is there already
    (there : paired (ps ++ qs) (from_of pair) (to_of pair) ≡ true) where
  same-use : (barred : List ℕ) (chosen : ℕ) (available : List ℕ) (v : ℕ) →
      may_use (ps ++ pair ∷ qs) barred chosen available v ≡ may_use (ps ++ qs) barred chosen available v
  unfolding may_use
  same-use barred chosen available v =
      ap (λ (b : Bool). elem v available && (eqb v chosen || (b && not (elem v barred)))) (pair-repeated ps qs pair there chosen v)

  same-accepted : (accepted barred : List ℕ) (chosen : ℕ) (available : List ℕ) →
      first_accepted accepted (ps ++ pair ∷ qs) barred chosen available ≡ first_accepted accepted (ps ++ qs) barred chosen available
  unfolding first_accepted
  same-accepted [] barred chosen available = refl
  same-accepted (v ∷ accepted) barred chosen available =
      rw (same-use barred chosen available v, same-accepted accepted barred chosen available)

  same-information : (accepted barred : List ℕ) (version : ℕ) (presence : Presence) (information : List ℕ) →
      with_information accepted (ps ++ pair ∷ qs) barred version presence information ≡
      with_information accepted (ps ++ qs) barred version presence information
  same-information accepted barred version Missing information = refl
  same-information accepted barred version Given information = rw (same-accepted accepted barred)

  pub decision-repeated : (readable accepted barred : List ℕ) (version : ℕ) (presence : Presence) (information : List ℕ) →
      length (ps ++ pair ∷ qs) ≤ max_pairs →
      decide readable accepted (ps ++ pair ∷ qs) barred version presence information ≡
      decide readable accepted (ps ++ qs) barred version presence information
  unfolding decide
  decision-repeated readable accepted barred version presence information fits =
      rw (rule-repeated ps qs pair there fits, same-information accepted barred version presence information)
