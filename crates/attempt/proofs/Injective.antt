-- The definitions that set out the cases of a start and of an event's answer tell them apart.
use mathlib.Core.Path.{◌≡◌, refl}
use Rattle.std.specs.Prelude.{Result, Ok, Err}
use Rattle.refusals.specs.Reply.{Reply, Reply.refused, Reply.answered}
use Rattle.refusals.specs.declared.Refusal.{Refusal}
use Rattle.refusals.proofs.Injective.{injective-by, numbered}
use Rattle.attempt.specs.Start.{Nothing, Nothing.nothing, Start, shown_start}
use Rattle.attempt.specs.Step.{After, Effect, Effect.acts, Effect.notes, Effect.completes, answer_reply, shown}
use Rattle.attempt.specs.declared.Answer.{Answer}
use Rattle.attempt.specs.declared.Answer.TheVariants as answer
use Rattle.attempt.specs.declared.Attempt.{Attempt}
use Rattle.attempt.specs.declared.Stepped.{Stepped}

-- a start's result, from the record and the answer
started_with : Attempt → Reply Nothing → Result Attempt Refusal
started_with a (refused n c) = Err (numbered n)
started_with a (answered nothing) = Ok a

started : Start → Result Attempt Refusal
started s = started_with s.attempt s.reply

started-back : (s : Result Attempt Refusal) → started (shown_start s) ≡ s
unfolding started started_with
started-back (Ok a) = refl
started-back (Err r) = refl

pub start-injective : (a b : Result Attempt Refusal) → shown_start a ≡ shown_start b → a ≡ b
start-injective = injective-by shown_start started started-back

answer_of : Reply Effect → Result Answer Refusal
answer_of (refused n c) = Err (numbered n)
answer_of (answered (acts v)) = Ok (answer.Acted v)
answer_of (answered notes) = Ok answer.Noted
answer_of (answered (completes v)) = Ok (answer.Completed v)

answer_back : (a : Result Answer Refusal) → answer_of (answer_reply a) ≡ a
unfolding answer_of
answer_back (Err r) = refl
answer_back (Ok (answer.Acted v)) = refl
answer_back (Ok answer.Noted) = refl
answer_back (Ok (answer.Completed v)) = refl

-- a step's record and answer
stepped : After → Stepped
stepped s = record { attempt = s.attempt; answer = answer_of s.reply }

stepped-back : (s : Stepped) → stepped (shown s) ≡ s
unfolding stepped
stepped-back s = λ i. record { attempt = s.attempt; answer = answer_back s.answer i }

pub step-injective : (a b : Stepped) → shown a ≡ shown b → a ≡ b
step-injective = injective-by shown stepped stepped-back
