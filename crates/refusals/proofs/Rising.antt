-- Document 01: "the lowest number that applies is given, and only then". Where the numbers of a list of rules rise, the
-- first rule that applies is that one.
use Prim.Native.Nat.{ℕ, ◌<◌, ◌≤◌}
use native.Mathlib.Omega.{arith}
use mathlib.Core.Bool.{Bool, true, false, ◌&&◌, ◌||◌, false≢true}
use mathlib.Core.List.{List, [], ◌∷◌}
use mathlib.Core.Logic.{◌↔◌}
use Rattle.std.specs.Prelude.{Option, None, Some}
use Rattle.std.proofs.lemmas.Option.{same_Some, none-some}
use mathlib.Core.Path.{◌≡◌, refl, sym, ap, ◌∙◌}
use lib.Dec.{eqb, ltb}
use borrow.Author.Tests.{eqb-true, eq-eqb, ltb-true}
use Rattle.refusals.specs.Rule.{Rule, Rule.◌when◌, lowest, number_given, applies, rising}
use Rattle.refusals.proofs.Rules.{both_true}

-- What a call answers: the refusal of the number that its rules give; where they give none, its other value
module _ {B : Type 0} (refusal : ℕ → B) (other : B) where
  pub refusal-given : (rules : List Rule) (n : ℕ) → number_given rules ≡ Some n → lowest refusal rules other ≡ refusal n
  refusal-given [] n h = absurd (none-some n h)
  refusal-given ((m when true) ∷ rules) n h = ap refusal (same_Some m n h)
  refusal-given ((m when false) ∷ rules) n h = refusal-given rules n h

  pub none-given : (rules : List Rule) → number_given rules ≡ None → lowest refusal rules other ≡ other
  none-given [] h = refl
  none-given ((m when true) ∷ rules) h = absurd (none-some m (sym h))
  none-given ((m when false) ∷ rules) h = none-given rules h

-- one of two
either : {P : Type 0} (a b : Bool) → (a || b) ≡ true → (a ≡ true → P) → (b ≡ true → P) → P
either true b h f g = f refl
either false b h f g = g h

rising-tail : (n : ℕ) (b : Bool) (rules : List Rule) → rising ((n when b) ∷ rules) ≡ true → rising rules ≡ true
rising-tail n b [] h = refl
rising-tail n b ((m when c) ∷ rules) h = (both_true (ltb n m) _ h).1

-- the first number is below the others
first_below : (n : ℕ) (b : Bool) (rules : List Rule) (k : ℕ) → rising ((n when b) ∷ rules) ≡ true → applies k rules ≡ true → n < k
first_below n b [] k h a = absurd (false≢true a)
first_below n b ((m when c) ∷ rules) k h a =
    let p = both_true (ltb n m) (rising ((m when c) ∷ rules)) h in
    let below : n < m = ltb-true n m p.0 in
    either (c && eqb m k) (applies k rules) a
    (λ here. let same : m ≡ k = eqb-true m k (both_true c (eqb m k) here).1 in omega (arith, same, below))
    (λ later. let above : m < k = first_below m c rules k p.1 later in omega (arith, above, below))

-- what is given applies
given-applies : (rules : List Rule) (n : ℕ) → number_given rules ≡ Some n → applies n rules ≡ true
given-applies [] n h = absurd (none-some n h)
given-applies ((m when true) ∷ rules) n h = rw (eq-eqb m n (same_Some m n h))
given-applies ((m when false) ∷ rules) n h = given-applies rules n h

-- and what applies is not below it
given-least : (rules : List Rule) (n k : ℕ) → rising rules ≡ true → number_given rules ≡ Some n → applies k rules ≡ true → n ≤ k
given-least [] n k r h a = absurd (none-some n h)
given-least ((m when true) ∷ rules) n k r h a =
    let same : m ≡ n = same_Some m n h in
    either (eqb m k) (applies k rules) a
    (λ here. let found : m ≡ k = eqb-true m k here in omega (arith, same, found))
    (λ later. let above : m < k = first_below m true rules k r later in omega (arith, same, above))
given-least ((m when false) ∷ rules) n k r h a =
    given-least rules n k (rising-tail m false rules r) h a

-- where a rule applies, a number is given
given-some : (rules : List Rule) (k : ℕ) → applies k rules ≡ true → number_given rules ≡ None → ⊥
given-some [] k a h = absurd (false≢true a)
given-some ((m when true) ∷ rules) k a h = none-some m (sym h)
given-some ((m when false) ∷ rules) k a h = given-some rules k a h

pub lowest-number-given : (rules : List Rule) (n : ℕ) → rising rules ≡ true →  -- of rules whose numbers rise,
    (number_given rules ≡ Some n) ↔  -- a number is given exactly when
    ((applies n rules ≡ true) ×  -- it applies
    ((k : ℕ) → applies k rules ≡ true → n ≤ k))  -- and is the lowest that does
lowest-number-given rules n r = (
  (λ h. (given-applies rules n h, λ k a. given-least rules n k r h a)),
  (λ (a, least). go (number_given rules) refl a least),
)
  where
    go : (o : Option ℕ) → number_given rules ≡ o → applies n rules ≡ true → ((k : ℕ) → applies k rules ≡ true → n ≤ k) →
        number_given rules ≡ Some n
    go None h a least = absurd (given-some rules n a h)
    go (Some m) h a least =
        let up : n ≤ m = least m (given-applies rules m h) in
        let down : m ≤ n = given-least rules m n r h a in
        let same : m ≡ n = omega (arith, up, down) in
        h ∙ ap Some same
