-- `judge_record` meets its contract: the verdict on the attempt is one on the record.
use mathlib.Core.Bool.{true}
use mathlib.Core.Path.{◌≡◌, sym, ap, ◌∙◌}
use Rattle.attempt.specs.Journaled.{journaled_any, journaled_step_of_any}
use Rattle.attempt.specs.declared.Attempt.{Attempt}
use Rattle.attempt.proofs.Journaled.{any-journaled}
use Rattle.std.specs.Prelude.{Some}
use Rattle.attempt.specs.Event.{event_in, bytes_in}
use Rattle.attempt.specs.Step.{step_of_any}
use Rattle.c_record.specs.Handing.{bytes_read, handed_in}
use Rattle.c_record.proofs.Handing.{handed-none, handed-some, unread}
use Rattle.client_verdict.specs.Verdicts.{applied}
use Rattle.c_record.specs.Records.{marks_fit, is_record, event_of, left_after}
use Rattle.c_record.proofs.Applied.{verdict-left}
use Rattle.c_record.proofs.Records.{step-refused, step-unknown, step-any-known}
use Rattle.c_record.proofs.events.judge_record.Goals.{In-Some, Else-not-marks_fit}
use Rattle.c_record.proofs.events.judge_record.Goals as goal

marks : (c : Else-not-marks_fit) → marks_fit c.args.held ≡ true
marks c = sym c.marks_fit.ensures ∙ c.if-not-marks_fit.false

pub returns-then-not-marks_fit : goal.returns-then-not-marks_fit
unfolding is_record
returns-then-not-marks_fit c = step-refused c.args.held _ _ _
    (rw (sym c.marks_fit.ensures ∙ c.if-not-marks_fit.true))

pub returns-in-None : goal.returns-in-None
returns-in-None c = let g = c.args in
    let none = handed-none (event_of g.kind g.value) g.bytes.now (sym (ap handed_in c.in-None.is) ∙ c.event_of.ensures) in
    step-unknown g.held g.kind g.value g.bytes.now none

pub decode-requires : goal.decode-requires
decode-requires c = marks (goal.at.decode-requires c).Else-not-marks_fit

-- the event of the kind, with the bytes that it reads
known : (c : In-Some) →
    let e = event_in c.in-Some.event in
    (event_of c.args.kind c.args.value ≡ Some e) × (bytes_in c.in-Some.event ≡ bytes_read e c.args.bytes.now)
known c = handed-some (event_of c.args.kind c.args.value) c.args.bytes.now _ (sym (ap handed_in c.in-Some.is) ∙ c.event_of.ensures)

pub returns-in-Some : goal.returns-in-Some
returns-in-Some c = let g = c.args in
    let at = goal.at.returns-in-Some c in
    let e = event_in c.in-Some.event in
    let read = known at.In-Some in
    let a = c.decode.result in
    verdict-left g.held (marks at.Else-not-marks_fit) c.judge.result ∙
    ap left_after
    (ap (λ (a : Attempt). journaled_any (applied a c.judge.result)) (sym c.decode.ensures) ∙
    ap journaled_any (c.judge.ensures ∙ ap (step_of_any a e) read.1 ∙ unread a e g.bytes.now) ∙
    any-journaled a e g.bytes.now ∙
    ap (λ (a : Attempt). journaled_step_of_any a e g.bytes.now) c.decode.ensures) ∙
    step-any-known g.held g.kind g.value g.bytes.now (marks at.Else-not-marks_fit) read.0
