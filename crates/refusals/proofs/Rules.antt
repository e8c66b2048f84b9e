-- Lists of rules: where every test is false the answer is given, else a refusal is.
use Prim.Native.Nat.{ℕ}
use mathlib.Core.Bool.{Bool, true, false, not, ◌&&◌, ◌||◌, and_assoc, true≢false, false≢true}
use mathlib.Core.List.{List, [], ◌∷◌, ◌++◌}
use mathlib.Core.Path.{◌≡◌, refl, sym, ◌∙◌, ap}
use native.Mathlib.Omega.{arith}
use Rattle.refusals.specs.Reply.{Reply, Reply.answered, refuse}
use Rattle.refusals.specs.declared.Call.{Call}
use Rattle.refusals.specs.Rule.{Rule, Rule.◌when◌, lowest, judged, clear}

pub both_true : (a b : Bool) → (a && b) ≡ true → (a ≡ true) × (b ≡ true)
both_true true b e = (refl, e)
both_true false b e = absurd (false≢true e)

-- A rule of two tests that does not apply
pub neither : (a b : Bool) → not (a || b) ≡ true → (a ≡ false) × (b ≡ false)
neither true b e = absurd (false≢true e)
neither false true e = absurd (false≢true e)
neither false false e = (refl, refl)

pub refused-not-answered : {A : Type 0} (n : ℕ) (call : Call) (a : A) → refuse call n ≡ answered a → ⊥
refused-not-answered n call a e = let z : ◌≡◌ {A = ℕ} 0 1 = cc in omega arith

pub answered-injective : {A : Type 0} (a b : A) → answered a ≡ answered b → a ≡ b
answered-injective a b e = cc

pub clear-append : (rs ss : List Rule) → clear (rs ++ ss) ≡ (clear rs && clear ss)
clear-append [] ss = refl
clear-append ((n when b) ∷ rs) ss =
    ap (λ (c : Bool). not b && c) (clear-append rs ss) ∙ sym (and_assoc (not b) (clear rs) (clear ss))

module _ {B : Type 0} (refusal : ℕ → B) (other : B) where
  -- where no rule applies, the other value
  pub lowest-clear : (rs : List Rule) → clear rs ≡ true → lowest refusal rs other ≡ other
  lowest-clear [] e = refl
  lowest-clear ((n when true) ∷ rs) e = absurd (false≢true e)
  lowest-clear ((n when false) ∷ rs) e = lowest-clear rs e

  -- where a rule applies, a refusal: what holds of each of them holds of it
  pub lowest-applies : (P : B → Type 0) → ((n : ℕ) → P (refusal n)) → (rs : List Rule) → clear rs ≡ false → P (lowest refusal rs other)
  lowest-applies P each [] e = absurd (true≢false e)
  lowest-applies P each ((n when true) ∷ rs) e = each n
  lowest-applies P each ((n when false) ∷ rs) e = lowest-applies P each rs e

  -- what holds of each refusal and of the other value holds in any case
  pub lowest-any : (P : B → Type 0) → ((n : ℕ) → P (refusal n)) → P other → (rs : List Rule) → P (lowest refusal rs other)
  lowest-any P each last [] = last
  lowest-any P each last ((n when true) ∷ rs) = each n
  lowest-any P each last ((n when false) ∷ rs) = lowest-any P each last rs

-- The rules of two lists: those of the first, then those of the second
pub lowest-append : {B : Type 0} (refusal : ℕ → B) (other : B) (rs ss : List Rule) →
    lowest refusal (rs ++ ss) other ≡ lowest refusal rs (lowest refusal ss other)
lowest-append refusal other [] ss = refl
lowest-append refusal other ((n when true) ∷ rs) ss = refl
lowest-append refusal other ((n when false) ∷ rs) ss = lowest-append refusal other rs ss

-- Rules that refuse with a number make of it whatever is made of a refusal
pub lowest-number : {A B : Type 0} (call : Call) (a : A) (n : ℕ) (refusal : ℕ → B) (other : B) (rs : List Rule) →
    refuse call n ≡ lowest (refuse call) rs (answered a) → refusal n ≡ lowest refusal rs other
lowest-number call a n refusal other [] e = absurd (refused-not-answered n call a e)
lowest-number call a n refusal other ((m when true) ∷ rs) e = let z : n ≡ m = cc in ap refusal z
lowest-number call a n refusal other ((m when false) ∷ rs) e = lowest-number call a n refusal other rs e

-- Rules that let an answer through are clear
pub answered-clear : {A : Type 0} (call : Call) (a b : A) (rs : List Rule) →
    answered b ≡ lowest (refuse call) rs (answered a) → clear rs ≡ true
answered-clear call a b [] e = refl
answered-clear call a b ((m when true) ∷ rs) e = absurd (refused-not-answered m call b (sym e))
answered-clear call a b ((m when false) ∷ rs) e = answered-clear call a b rs e

-- An answer comes where no rule applies, and is the other value
pub reply-given : {A : Type 0} (call : Call) (rules : List Rule) (other : Reply A) (y : A) → judged call rules other ≡ answered y
    → (clear rules ≡ true) × (other ≡ answered y)
reply-given call [] other y e = (refl, e)
reply-given call ((n when true) ∷ rules) other y e = absurd (refused-not-answered n call y e)
reply-given call ((n when false) ∷ rules) other y e = reply-given call rules other y e

-- the same where that is an answer: it is the one that was to be given
pub answer-given : {A : Type 0} (call : Call) (rules : List Rule) (x y : A) → judged call rules (answered x) ≡ answered y
    → (clear rules ≡ true) × (x ≡ y)
answer-given call rules x y e =
    let given = reply-given call rules (answered x) y e in
    (given.0, answered-injective x y given.1)
