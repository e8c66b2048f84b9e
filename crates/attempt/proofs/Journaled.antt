-- The journal of an attempt: after any events it is that of the numbers that they were answered with (`journal-after`). And
-- no event of an attempt is answered with the number outside document 01, which is not noted (`any-journaled`).
use Prim.Native.Nat.{ℕ}
use mathlib.Core.Bool.{Bool, true, false, cond, not}
use mathlib.Core.List.{List, [], ◌∷◌, ◌++◌, append-nil}
use Rattle.std.specs.Prelude.{Option, None, Some}
use mathlib.Core.Path.{◌≡◌, refl, sym, ap, ◌∙◌}
use native.Mathlib.Omega.{arith}
use borrow.Author.Tests.{ltb-true, ne_eqb}
use lib.Dec.{eqb}
use lib.Seq.{append_snoc}
use Rattle.refusals.specs.Reply.{refusal_of}
use Rattle.refusals.specs.Rule.{Rule, Rule.◌when◌, lowest}
use Rattle.refusals.proofs.Rules.{lowest-any}
use Rattle.journal.specs.Journals.{journal_of, note_of}
use Rattle.journal.specs.declared.Journal.{Journal}
use Rattle.journal.proofs.Notes.{noted}
use Rattle.choosing.specs.Choice.{preferred}
use Rattle.invariants.specs.Header.{listed}
use Rattle.attempt.specs.Attempt.{table_of, is_open, put}
use Rattle.attempt.specs.Events.{Handed, journaled_run, answers_to}
use Rattle.attempt.specs.Journaled.{journaled, journaled_step, journaled_any, journaled_step_of_any}
use Rattle.attempt.specs.Limits.{not_a_record}
use Rattle.attempt.specs.Start.{Input, Start, start_rules, start_of, refused_start, opened_start, opened, blank}
use Rattle.attempt.specs.Step.{After, Effect.notes, after, unchanged, closed, completed, act_on}
use Rattle.attempt.specs.Step.{datagram_rules, information_rules, could_be_attempt, step_of, step_of_any, on_datagram, on_processed, on_outcome}
use Rattle.attempt.specs.declared.Attempt.{Attempt}
use Rattle.attempt.specs.Event.{Event, Event.Datagram, Event.PacketProcessed, Event.Outcome}
use Rattle.attempt.proofs.Keeps.{below_outside, numbers_pass, lowest-passing, outcome-passes}
use Rattle.attempt.proofs.Unread.{step-journal}

-- The journal after one event: what was there, and the answer behind it
pub one-noted : (xs : List ℕ) (a : Attempt) (e : Event) (bytes : List ℕ) → a.journal ≡ journal_of xs →
    let s = journaled_step a e bytes in s.attempt.journal ≡ journal_of (xs ++ (refusal_of s.reply ∷ []))
unfolding journaled_step
one-noted xs a e bytes h =
    let n = refusal_of (step_of a e bytes).reply in
    ap (λ (j : Journal). note_of j n) (step-journal a e bytes ∙ h) ∙ noted xs n

-- The journal after any events is that of the numbers that they were answered with

journal-on : (xs : List ℕ) (a : Attempt) (es : List Handed) → a.journal ≡ journal_of xs →
    (journaled_run a es).journal ≡ journal_of (xs ++ answers_to a es)
unfolding journaled_run answers_to
journal-on xs a [] h = h ∙ ap journal_of (sym (append-nil xs))
journal-on xs a (e ∷ es) h =
    let s = journaled_step a e.event e.bytes in
    let n = refusal_of s.reply in
    journal-on (xs ++ (n ∷ [])) s.attempt es (one-noted xs a e.event e.bytes h) ∙
    ap journal_of (append_snoc xs n (answers_to s.attempt es))

-- a start's record, accepted or refused, has the journal of no events
pub start-journal : (x : Input) → (start_of x).attempt.journal ≡ journal_of []
unfolding start_of opened blank
start-journal x =
    lowest-any refused_start (opened_start x) (λ (s : Start). s.attempt.journal ≡ journal_of []) (λ n. refl) refl (start_rules x)

pub journal-after : (x : Input) (events : List Handed) →
    (journaled_run (start_of x).attempt events).journal ≡ journal_of (answers_to (start_of x).attempt events)
journal-after x events = journal-on [] (start_of x).attempt events (start-journal x)

-- No event of an attempt is answered with the number outside document 01

abbrev Known : After → Type 0
Known s = eqb (refusal_of s.reply) not_a_record ≡ false

module _ (a : Attempt) where
  unlike : (n : ℕ) → below_outside n ≡ true → eqb n not_a_record ≡ false
  unlike n below = let l = ltb-true n not_a_record below in ne_eqb n not_a_record (λ e. omega (arith, l, e))

  acted-known : (o : Option ℕ) → Known (act_on a o)
  acted-known None = refl
  acted-known (Some v) = refl

  outcome-known : (open? : Bool) (rules : List Rule) (u : ℕ) → numbers_pass rules ≡ true →
      Known (cond open? (lowest (closed a) rules (completed a u)) (unchanged a 62))
  outcome-known true rules u h = lowest-passing (closed a) (completed a u) Known unlike refl rules h
  outcome-known false rules u h = refl

  pub answer-known : (e : Event) (bytes : List ℕ) → Known (step_of a e bytes)
  unfolding step_of on_datagram on_processed on_outcome
  answer-known Datagram bytes =
      lowest-passing (unchanged a) (act_on a (preferred (table_of a) (listed bytes))) Known unlike
      (acted-known (preferred (table_of a) (listed bytes))) (datagram_rules a bytes) refl
  answer-known PacketProcessed bytes =
      lowest-passing (unchanged a) (after (put a a.attempted a.acted true a.end) notes) Known unlike refl
      ((62 when not (is_open a.end)) ∷ []) refl
  answer-known (Outcome u p) bytes =
      outcome-known (is_open a.end) (information_rules a u p bytes) u (outcome-passes a u p bytes)

  -- so what is noted of any record value is what is noted of an attempt
  pub any-journaled : (e : Event) (bytes : List ℕ) → journaled_any (step_of_any a e bytes) ≡ journaled_step_of_any a e bytes
  unfolding step_of_any journaled_step_of_any journaled_step
  any-journaled e bytes = go (could_be_attempt a) where
    go : (b : Bool) → journaled_any (cond b (step_of a e bytes) (unchanged a not_a_record)) ≡
        cond b (journaled (step_of a e bytes)) (unchanged a not_a_record)
    go true = rw (answer-known e bytes)
    go false = refl

  pub any-accepted-journaled : (e : Event) (bytes : List ℕ) → could_be_attempt a ≡ true →
      journaled_step a e bytes ≡ journaled_step_of_any a e bytes
  unfolding journaled_step_of_any
  any-accepted-journaled e bytes h = rw h
