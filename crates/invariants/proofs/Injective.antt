-- The definition that sets out the result of the reader tells two results apart.
use mathlib.Core.Path.{◌≡◌, refl}
use Rattle.std.specs.Prelude.{Result, Ok, Err}
use Rattle.refusals.specs.Reply.{Reply, Reply.refused, Reply.answered}
use Rattle.refusals.specs.declared.Refusal.{Refusal}
use Rattle.refusals.proofs.Injective.{injective-by, numbered}
use Rattle.invariants.specs.Header.{Form, Form.long, Form.short, Form.version_negotiation, header_reply}
use Rattle.invariants.specs.declared.Header.{Header}
use Rattle.invariants.specs.declared.Header.TheVariants.{Long, Short, VersionNegotiation}

result : Reply Form → Result Header Refusal
result (refused n c) = Err (numbered n)
result (answered (long v d s r)) = Ok (Long v d s r)
result (answered (short d r)) = Ok (Short d r)
result (answered (version_negotiation d s l)) = Ok (VersionNegotiation d s l)

read_back : (r : Result Header Refusal) → result (header_reply r) ≡ r
unfolding result
read_back (Ok (Long v d s r)) = refl
read_back (Ok (Short d r)) = refl
read_back (Ok (VersionNegotiation d s l)) = refl
read_back (Err r) = refl

pub header-injective : (a b : Result Header Refusal) → header_reply a ≡ header_reply b → a ≡ b
header-injective = injective-by header_reply result read_back
