-- The numbers of the rules of the client's Version Information rise, so the lowest that applies is given.
use Prim.Native.Nat.{ℕ}
use mathlib.Core.Bool.{true}
use mathlib.Core.List.{List}
use mathlib.Core.Path.{◌≡◌, refl}
use Rattle.refusals.specs.Rule.{rising}
use Rattle.client_information.specs.ClientInformation.{sent_rules}

-- 37 and 47
pub sent-rises : (own : List ℕ) (given : List (List ℕ)) (room : ℕ) → rising (sent_rules own given room) ≡ true
sent-rises own given room = refl
