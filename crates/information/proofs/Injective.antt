-- The definition that sets out the result of the reader tells two results apart.
use mathlib.Core.Path.{◌≡◌, refl}
use Rattle.std.specs.Prelude.{Result, Ok, Err}
use Rattle.refusals.specs.Reply.{Reply, Reply.refused, Reply.answered}
use Rattle.refusals.specs.declared.Refusal.{Refusal}
use Rattle.refusals.proofs.Injective.{injective-by, numbered}
use Rattle.information.specs.Information.{Found, information_reply}
use Rattle.information.specs.declared.Information.{Information}

result : Reply Found → Result Information Refusal
result (refused n c) = Err (numbered n)
result (answered f) = Ok (record { chosen = f.chosen; available = f.available })

read_back : (r : Result Information Refusal) → result (information_reply r) ≡ r
unfolding result
read_back (Ok i) = refl
read_back (Err r) = refl

pub information-injective : (a b : Result Information Refusal) → information_reply a ≡ information_reply b → a ≡ b
information-injective = injective-by information_reply result read_back
