-- The numbers of the header reader's rules rise, so the lowest that applies is given.
use Prim.Native.Nat.{ℕ}
use mathlib.Core.Bool.{true}
use mathlib.Core.List.{List}
use mathlib.Core.Path.{◌≡◌, refl}
use Rattle.refusals.specs.Rule.{rising}
use Rattle.invariants.specs.Header.{header_rules}

-- 11, 12, 13
pub header-rises : (datagram : List ℕ) (told : ℕ) → rising (header_rules datagram told) ≡ true
header-rises datagram told = refl
