-- The numbers of the rules rise, so the lowest that applies is given.
use Prim.Native.Nat.{ℕ}
use mathlib.Core.Bool.{true}
use mathlib.Core.List.{List}
use mathlib.Core.Path.{◌≡◌, refl}
use Rattle.refusals.specs.Rule.{rising}
use Rattle.integers.specs.Integers.{integer_rules, write_rules}

-- 81
pub read-rises : (bytes : List ℕ) → rising (integer_rules bytes) ≡ true
read-rises bytes = refl

-- 83, 84
pub write-rises : (v room : ℕ) → rising (write_rules v room) ≡ true
write-rises v room = refl
