-- Whether Version Information is given, as a number: what the server then decides on.
use Prim.Native.Nat.{ℕ}
use mathlib.Core.Bool.{Bool, true, false, cond}
use mathlib.Core.List.{List, []}
use mathlib.Core.Path.{◌≡◌, refl}
use lib.Dec.{eqb}
use Rattle.std.specs.Borrow.{Bor}
use Rattle.std.specs.Prelude.{Option, None, Some}
use Rattle.refusals.specs.Reply.{Reply}
use Rattle.information.specs.Presence.{Presence.Missing, Presence.Given, presence_of, bytes_given}
use Rattle.server.specs.FirstFlight.{Act, decide}
use Rattle.c_interface.specs.Numbers.{decide_on, for_known, named}

module _ (readable accepted : List ℕ) (pairs : List (List ℕ)) (barred : List ℕ) (version : ℕ) where
  -- the decision on what is handed over
  abbrev pub decided : Option (Bor (List ℕ)) → Reply Act
  decided given = decide readable accepted pairs barred version (presence_of given) (bytes_given given)

  -- where information is missing no bytes are looked at
  missing-unread : (bytes : List ℕ) → decided None ≡ decide readable accepted pairs barred version Missing bytes
  unfolding decide
  missing-unread bytes = refl

  pub decided-by-number : (n : ℕ) (information : Bor (List ℕ)) →
      for_known decided (named None (Some information) n) ≡ decide_on readable accepted pairs barred version n information.now
  unfolding named
  decided-by-number n information = go (eqb n 0) (eqb n 1)
    where
      go : (zero one : Bool) → for_known decided (cond zero (Some None) (cond one (Some (Some information)) None)) ≡
          for_known (λ p. decide readable accepted pairs barred version p information.now)
          (cond zero (Some Missing) (cond one (Some Given) None))
      go true one = missing-unread information.now
      go false true = refl
      go false false = refl
