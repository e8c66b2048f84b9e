-- The definition that sets out the cases of a decision tells them apart.
use mathlib.Core.Path.{◌≡◌, refl}
use Rattle.std.specs.Prelude.{Result, Ok, Err}
use Rattle.refusals.specs.Reply.{Reply, Reply.refused, Reply.answered}
use Rattle.refusals.specs.declared.Refusal.{Refusal}
use Rattle.refusals.proofs.Injective.{injective-by, numbered}
use Rattle.server.specs.FirstFlight.{Act, Act.negotiate, Act.use-version, decision_reply}
use Rattle.server.specs.declared.Decision.{Decision}
use Rattle.server.specs.declared.Decision.TheVariants.{Negotiate, Use}

decision : Reply Act → Result Decision Refusal
decision (refused n c) = Err (numbered n)
decision (answered negotiate) = Ok Negotiate
decision (answered (use-version v)) = Ok (Use v)

decision-back : (d : Result Decision Refusal) → decision (decision_reply d) ≡ d
unfolding decision
decision-back (Err r) = refl
decision-back (Ok Negotiate) = refl
decision-back (Ok (Use v)) = refl

pub decision-injective : (a b : Result Decision Refusal) → decision_reply a ≡ decision_reply b → a ≡ b
decision-injective = injective-by decision_reply decision decision-back
