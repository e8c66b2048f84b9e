-- The versions of a list that another does not hold: there is none exactly when the list is within the other.
use Prim.Native.Nat.{ℕ}
use mathlib.Core.Bool.{Bool, true, false, false≢true}
use mathlib.Core.List.{List, [], ◌∷◌}
use Rattle.std.specs.Prelude.{Option, None, Some}
use mathlib.Core.Path.{◌≡◌, refl}
use native.Mathlib.Omega.{arith}
use Rattle.std.proofs.Common.{tests}
use Rattle.refusals.proofs.Rules.{both_true}
use Rattle.versions.specs.Table.{elem}
use Rattle.both_ends.specs.Configuration.{within, same_versions, first_outside}

-- There is no such version exactly when the list is within the other
abbrev pub is_none : Option ℕ → Bool
is_none None = true
is_none (Some v) = false

pub within-outside : (list other : List ℕ) → within list other ≡ is_none (first_outside list other)
unfolding within
within-outside [] other = refl
within-outside (v ∷ list) other = let rest = within-outside list other in grind (arith, tests)

-- What one list holds, the other does
pub within-elem : (list other : List ℕ) (v : ℕ) → within list other ≡ true → elem v list ≡ true → elem v other ≡ true
unfolding within elem
within-elem [] other v w h = absurd (false≢true h)
within-elem (x ∷ list) other v w h =
    let both = both_true (elem x other) (within list other) w in
    let rest = within-elem list other v both.1 in grind (arith, tests)

-- Lists that hold the same versions hold each version alike
pub same-elem : (a b : List ℕ) (v : ℕ) → same_versions a b ≡ true → elem v a ≡ elem v b
same-elem a b v s =
    let both = both_true (within a b) (within b a) s in
    let there = within-elem a b v both.0 in
    let back = within-elem b a v both.1 in grind (arith, tests)
