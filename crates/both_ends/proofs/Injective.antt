-- The definition that sets out the cases of the test's result tells them apart.
use mathlib.Core.Path.{◌≡◌, refl}
use Rattle.std.specs.Prelude.{Result, Ok, Err}
use Rattle.refusals.specs.Reply.{Reply, Reply.refused, Reply.answered}
use Rattle.refusals.specs.declared.Refusal.{Refusal}
use Rattle.refusals.proofs.Injective.{injective-by, numbered}
use Rattle.both_ends.specs.Configuration.{Part.accepted-not-offered, Part.offered-not-accepted, Part.offered-not-readable}
use Rattle.both_ends.specs.Configuration.{Part.available-not-offered, Part.offered-not-available, Verdict, Verdict.safe, Verdict.broken}
use Rattle.both_ends.specs.Configuration.{finding_reply}
use Rattle.both_ends.specs.declared.Finding.{Finding}
use Rattle.both_ends.specs.declared.Finding.TheVariants as finding

result : Reply Verdict → Result Finding Refusal
result (refused n c) = Err (numbered n)
result (answered safe) = Ok finding.Safe
result (answered (broken accepted-not-offered v)) = Ok (finding.AcceptedNotOffered v)
result (answered (broken offered-not-accepted v)) = Ok (finding.OfferedNotAccepted v)
result (answered (broken offered-not-readable v)) = Ok (finding.OfferedNotReadable v)
result (answered (broken available-not-offered v)) = Ok (finding.AvailableNotOffered v)
result (answered (broken offered-not-available v)) = Ok (finding.OfferedNotAvailable v)

result_back : (r : Result Finding Refusal) → result (finding_reply r) ≡ r
unfolding result
result_back (Err r) = refl
result_back (Ok finding.Safe) = refl
result_back (Ok (finding.AcceptedNotOffered v)) = refl
result_back (Ok (finding.OfferedNotAccepted v)) = refl
result_back (Ok (finding.OfferedNotReadable v)) = refl
result_back (Ok (finding.AvailableNotOffered v)) = refl
result_back (Ok (finding.OfferedNotAvailable v)) = refl

pub finding-injective : (a b : Result Finding Refusal) → finding_reply a ≡ finding_reply b → a ≡ b
finding-injective = injective-by finding_reply result result_back
