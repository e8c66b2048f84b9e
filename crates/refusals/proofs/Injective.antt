-- A definition that sets out an answer's cases tells them apart: what it makes of the answer can be turned back.
use Prim.Native.Nat.{ℕ}
use mathlib.Core.Path.{◌≡◌, refl, sym, ap, ◌∙◌}
use Rattle.std.specs.Prelude.{Result, Ok, Err}
use Rattle.refusals.specs.Reply.{Reply, Reply.refused, Reply.answered, read_reply}
use Rattle.refusals.specs.Written.{written_reply}
use Rattle.refusals.specs.declared.Refusal.{Refusal}

pub injective-by : {A B : Type 0} (f : A → B) (g : B → A) → ((a : A) → g (f a) ≡ a) → (a b : A) → f a ≡ f b → a ≡ b
injective-by f g back a b e = sym (back a) ∙ ap g e ∙ back b

-- The refusal of a number
abbrev pub numbered : ℕ → Refusal
numbered n = record { 0 = n }

-- The result that an answer is made from
result : {A : Type 0} → Reply A → Result A Refusal
result (refused n c) = Err (numbered n)
result (answered a) = Ok a

read_back : {A : Type 0} (r : Result A Refusal) → result (read_reply r) ≡ r
unfolding result
read_back (Ok a) = refl
read_back (Err r) = refl

written_back : (r : Result ℕ Refusal) → result (written_reply r) ≡ r
unfolding result
written_back (Ok n) = refl
written_back (Err r) = refl

pub read-injective : {A : Type 0} (a b : Result A Refusal) → read_reply a ≡ read_reply b → a ≡ b
read-injective = injective-by read_reply result read_back

pub written-injective : (a b : Result ℕ Refusal) → written_reply a ≡ written_reply b → a ≡ b
written-injective = injective-by written_reply result written_back
