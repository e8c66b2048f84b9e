-- The server's two lists of rules: in each the numbers rise. Their order, the second list after the first, is document
-- 01's own (specs/FirstFlight.antt).
use Prim.Native.Nat.{ℕ}
use mathlib.Core.Bool.{true}
use mathlib.Core.List.{List}
use mathlib.Core.Path.{◌≡◌, refl}
use Rattle.refusals.specs.Rule.{rising}
use Rattle.server.specs.FirstFlight.{server_rules, flight_rules}

-- 41, 43
pub server-rises : (readable accepted : List ℕ) (pairs : List (List ℕ)) (barred : List ℕ) → rising (server_rules readable accepted pairs barred) ≡ true
server-rises readable accepted pairs barred = refl

-- 31 to 36, 51
pub flight-rises : (information : List ℕ) (version : ℕ) → rising (flight_rules information version) ≡ true
flight-rises information version = refl
