-- The numbers of the rules of a choice from a word rise, so the lowest that applies is given. Those of a list's word and
-- of a count are the choice's (`choice-rises`, crates/choosing/proofs/Rising.antt).
use Prim.Native.Nat.{ℕ}
use mathlib.Core.Bool.{Bool, true}
use mathlib.Core.List.{List, [], ◌∷◌, ◌++◌}
use mathlib.Core.Path.{◌≡◌, refl}
use Rattle.refusals.specs.Rule.{Rule.◌when◌, rising}
use Rattle.sets.specs.Sets.{word_rules}

-- 41; then 42, whenever it is given
pub word-rises : (table : List ℕ) (nothing : Bool) → rising (word_rules table ++ ((42 when nothing) ∷ [])) ≡ true
word-rises table nothing = refl
