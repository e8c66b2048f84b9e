-- The record without enums loses nothing: what an event leaves of a record that events take is one again, every event
-- has a call, and the calls over the C interface are the client's run. (That an attempt and a record come back from
-- each other stands in Records.antt.)
use Prim.Native.Nat.{ℕ}
use mathlib.Core.Bool.{true}
use mathlib.Core.List.{List, [], ◌∷◌}
use Rattle.std.specs.Prelude.{Option, None, Some}
use mathlib.Core.Path.{◌≡◌, refl, sym, ap, ◌∙◌}
use Rattle.information.specs.Presence.{Presence.Missing, Presence.Given}
use Rattle.attempt.specs.Events.{journaled_run}
use Rattle.attempt.specs.Journaled.{journaled_step}
use Rattle.attempt.specs.Start.{Input, is_accepted, start_of}
use Rattle.attempt.specs.declared.Attempt.{Attempt}
use Rattle.attempt.specs.Event.{Event, Event.Datagram, Event.PacketProcessed, Event.Outcome}
use Rattle.c_record.specs.Calls.{EventCall, run_calls, event_before, events_of, kind_of, value_of}
use Rattle.c_record.specs.Records.{Left, is_record, attempt_of, record_of, event_of, event_on, left_after, step_record, start_record}
use Rattle.c_record.specs.declared.Record.{Record}
use Rattle.c_record.proofs.Records.{attempt-back, RecordFits, is-record, record-fits, step_fits, start_fits}
use Rattle.c_record.proofs.Records.{step-known, step-unknown}

-- What an event leaves of a record is one, whatever the kind

left-record : (r : Record) (bytes : List ℕ) (o : Option Event) → is_record r ≡ true → is_record (event_on r bytes o).left ≡ true
left-record r bytes None h = h
left-record r bytes (Some e) h =
    let a = attempt_of r in
    is-record (journaled_step a e bytes).attempt (step_fits a e bytes (record-fits r h))

pub event-leaves-record : (r : Record) (kind value : ℕ) (bytes : List ℕ) → is_record r ≡ true →
    is_record (step_record r kind value bytes).left ≡ true
unfolding step_record
event-leaves-record r kind value bytes h = rw h (left-record r bytes (event_of kind value) h)

-- Every event has a call

pub event-back : (e : Event) → event_of (kind_of e) (value_of e) ≡ Some e
unfolding event_of
event-back Datagram = refl
event-back PacketProcessed = refl
event-back (Outcome v Given) = refl
event-back (Outcome v Missing) = refl

-- One call leaves the record of what its event leaves, and the record itself where there is none

left-known : (a : Attempt) (kind value : ℕ) (bytes : List ℕ) (e : Event) → RecordFits a → event_of kind value ≡ Some e →
    (step_record (record_of a) kind value bytes).left ≡ record_of (journaled_step a e bytes).attempt
left-known a kind value bytes e f k =
    ap (λ (s : Left). s.left)
    (sym (step-known (record_of a) kind value bytes (is-record a f) k) ∙
    ap (λ (b : Attempt). left_after (journaled_step b e bytes)) (attempt-back a))

left-unknown : (r : Record) (kind value : ℕ) (bytes : List ℕ) → event_of kind value ≡ None →
    (step_record r kind value bytes).left ≡ r
left-unknown r kind value bytes k = ap (λ (s : Left). s.left) (sym (step-unknown r kind value bytes k))

pub same-run : (a : Attempt) (calls : List EventCall) → RecordFits a → run_calls (record_of a) calls ≡ record_of (journaled_run a (events_of calls))
unfolding journaled_run run_calls events_of
same-run a [] f = refl
same-run a (c ∷ calls) f = go (event_of c.kind c.value) refl (λ b. same-run b calls)
  where
    go : (o : Option Event) → event_of c.kind c.value ≡ o →
        ((b : Attempt) → RecordFits b → run_calls (record_of b) calls ≡ record_of (journaled_run b (events_of calls))) →
        run_calls (step_record (record_of a) c.kind c.value c.bytes).left calls ≡
        record_of (journaled_run a (event_before o c.bytes (events_of calls)))
    go None k later =
        ap (λ (r : Record). run_calls r calls) (left-unknown (record_of a) c.kind c.value c.bytes k) ∙ later a f
    go (Some e) k later =
        ap (λ (r : Record). run_calls r calls) (left-known a c.kind c.value c.bytes e f k) ∙
        later (journaled_step a e c.bytes).attempt (step_fits a e c.bytes f)

-- From an accepted start on: the records of the C interface are those of the client's attempt
pub same-from-start : (x : Input) (calls : List EventCall) → is_accepted x ≡ true →
    run_calls (start_record x).left calls ≡ record_of (journaled_run (start_of x).attempt (events_of calls))
same-from-start x calls h = same-run (start_of x).attempt calls (start_fits x h)
