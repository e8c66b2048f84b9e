-- The numbers of a choice's rules rise, so the lowest that applies is given.
use Prim.Native.Nat.{ℕ}
use mathlib.Core.Bool.{Bool, true}
use mathlib.Core.List.{List, [], ◌∷◌, ◌++◌}
use mathlib.Core.Path.{◌≡◌, refl}
use Rattle.refusals.specs.Rule.{Rule.◌when◌, rising}
use Rattle.choosing.specs.Choice.{choice_rules}

-- 40, 41; then 42, whenever it is given
pub choice-rises : (table list : List ℕ) (nothing : Bool) → rising (choice_rules table list ++ ((42 when nothing) ∷ [])) ≡ true
choice-rises table list nothing = refl
