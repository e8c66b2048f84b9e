-- `qv_server_choice`: what the number names is decided on, and the answer handed over.
use Prim.Native.Nat.{ℕ}
use mathlib.Core.Path.{◌≡◌, sym, ap, ◌∙◌}
use Rattle.std.specs.Prelude.{Ok}
use Rattle.std.specs.Borrow.{Bor}
use Rattle.refusals.specs.Reply.{Reply}
use Rattle.server.specs.FirstFlight.{Act, decision_reply}
use Rattle.server.specs.declared.Decision.{Decision}
use Rattle.c_interface.specs.Numbers.{returned, leaving, decide_on, for_known, act_number}
use Rattle.c_interface.proofs.Presence.{decided, decided-by-number}
use Rattle.c_interface.proofs.choices.qv_server_choice.Goals.{In-Some, In_default}
use Rattle.c_interface.proofs.choices.qv_server_choice.Goals as goal

abbrev left-by : ℕ → Reply Act → ℕ
left-by found answer = leaving act_number answer found

abbrev answer_with : Decision → Reply Act
answer_with d = decision_reply (Ok d)

-- the decision on the information that the number names
named-so : (c : In-Some) →
    let g = c.args in
    decided g.readable.now g.accepted.now g.pairs.now g.barred.now g.version c.in-Some.given ≡
    decide_on g.readable.now g.accepted.now g.pairs.now g.barred.now g.version g.presence g.information.now
named-so c =
    let g = c.args in
    ap (for_known (decided g.readable.now g.accepted.now g.pairs.now g.barred.now g.version)) c.in-Some.ensures ∙
    decided-by-number g.readable.now g.accepted.now g.pairs.now g.barred.now g.version g.presence g.information

pub returns-in_default : goal.returns-in_default
returns-in_default c =
    let g = c.args in
    let none =
    ap (for_known (decided g.readable.now g.accepted.now g.pairs.now g.barred.now g.version)) c.in_default.ensures ∙
    decided-by-number g.readable.now g.accepted.now g.pairs.now g.barred.now g.version g.presence g.information in
    record { answer = ap returned none; left = ap (left-by g.decision.now) none }

pub returns-in-Err : goal.returns-in-Err
returns-in-Err c =
    let so = c.in-Err.ensures ∙ named-so (goal.at.returns-in-Err c).In-Some in
    record { answer = c.from.ensures ∙ ap returned so; left = ap (left-by c.args.decision.now) so }

pub returns-in-Ok-Negotiate : goal.returns-in-Ok-Negotiate
returns-in-Ok-Negotiate c =
    let so = ap answer_with (sym c.in-Ok-Negotiate.field-0-is) ∙ c.in-Ok-Negotiate.ensures ∙ named-so (goal.at.returns-in-Ok-Negotiate c).In-Some in
    record { answer = ap returned so; left = ap (left-by c.args.decision.now) so }

pub returns-in-Ok-Use : goal.returns-in-Ok-Use
returns-in-Ok-Use c =
    let so = ap answer_with (sym c.in-Ok-Use.field-0-is) ∙ c.in-Ok-Use.ensures ∙ named-so (goal.at.returns-in-Ok-Use c).In-Some in
    record { answer = ap returned so; left = ap (left-by c.args.decision.now) so }
