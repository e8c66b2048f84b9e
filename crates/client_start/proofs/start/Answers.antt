-- `start` meets its contract: what is judged decides whether it hands back a record. That an accepted start hands back one
-- which is reachable follows from the equation.
use Prim.Native.Nat.{ℕ}
use mathlib.Core.Bool.{true}
use mathlib.Core.List.{[]}
use mathlib.Core.Path.{◌≡◌, sym, ap, ◌∙◌}
use Rattle.std.specs.Prelude.{Result, Ok, Err}
use borrow.Author.Rules.{rules}
use Rattle.refusals.specs.Reply.{Reply.answered, refuse}
use Rattle.refusals.specs.Rule.{judged}
use Rattle.refusals.specs.declared.Call.TheVariants.{Reading}
use Rattle.refusals.specs.declared.Refusal.{Refusal}
use Rattle.refusals.proofs.Rules.{lowest-clear, lowest-number, answer-given}
use Rattle.attempt.specs.Events.{Reachable, journaled_run}
use Rattle.attempt.specs.Start.{Input, input_of, start_rules, is_accepted, Start, shown_start, start_of, refused_start, opened_start}
use Rattle.attempt.specs.declared.Attempt.{Attempt}
use Rattle.client_start.specs.Inputs.{given}
use Rattle.client_start.proofs.start.Goals.{In_ok-input}
use Rattle.client_start.proofs.start.Goals as goal

-- The equation tells that the record is reachable
reachable : (x : Input) (s : Result Attempt Refusal) → shown_start s ≡ start_of x → is_accepted x ≡ true → Reachable (shown_start s).attempt
unfolding journaled_run
reachable x s e h = record { input = x; accepted = h; events = []; reached = sym (ap (λ (u : Start). u.attempt) e) }

-- What is judged: a refusal is the start's, and where there is none the attempt opens
refused-so : (x : Input) (n : ℕ) → refuse Reading n ≡ judged Reading (start_rules x) (answered x) → refused_start n ≡ start_of x
unfolding start_of
refused-so x n e = lowest-number Reading x n refused_start (opened_start x) (start_rules x) e

opened-so : (x : Input) → is_accepted x ≡ true → opened_start x ≡ start_of x
unfolding start_of
opened-so x h = sym (lowest-clear refused_start (opened_start x) (start_rules x) h)

abbrev told : In_ok-input → Input
told c =
    let args = c.args in
    input_of args.table.now args.pairs.now args.barred.now args.original args.destination.now args.source.now

-- what was judged is what was given
same : (c : In_ok-input) → given c.in_ok-input.input ≡ told c
same c = sym (answer-given Reading (start_rules (told c)) (told c) (given c.in_ok-input.input) (sym c.in_ok-input.ensures)).1

opens : (c : In_ok-input) → opened_start (given c.in_ok-input.input) ≡ start_of (told c)
opens c = opened-so (given c.in_ok-input.input) c.in_ok-input.input.accepted ∙ ap start_of (same c)

pub returns-in_err-input-clause-shown : goal.returns-in_err-input-clause-shown
returns-in_err-input-clause-shown c =
    let args = c.args in
    let x = input_of args.table.now args.pairs.now args.barred.now args.original args.destination.now args.source.now in
    let same : c.from_residual.result ≡ Err c.in_err-input.field-0.0 = search rules in
    rw same (refused-so x _ c.in_err-input.ensures)

pub returns-clause-shown : goal.returns-clause-shown
returns-clause-shown c =
    let at = (goal.at.returns-clause-shown c).In_ok-input in
    rw c.«open».ensures (opens at)

pub returns-clause-opens : goal.returns-clause-opens
returns-clause-opens c =
    let at = (goal.at.returns-clause-opens c).In_ok-input in
    reachable (told at) (Ok c.«open».result) (rw c.«open».ensures (opens at))
