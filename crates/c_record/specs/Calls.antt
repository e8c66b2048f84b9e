-- Lists of event calls on a record, as C makes them, and demand 3's terms read from them.
use Rattle.std.specs.Prelude.{ℕ, Bool, cond, List, [], ◌∷◌, eqb}
use Rattle.std.specs.Prelude.{Option, None, Some}
use Rattle.attempt.specs.Demand.{CompletedBy}
use Rattle.attempt.specs.Events.{Handed}
use Rattle.attempt.specs.Start.{Input}
use Rattle.information.specs.Presence.{Presence.Missing, Presence.Given}
use Rattle.attempt.specs.Event.{Event, Event.Datagram, Event.PacketProcessed, Event.Outcome}
use Rattle.c_record.specs.Numbers.{not_valid}
use Rattle.c_record.specs.Records.{event_of, step_record, start_record}
use Rattle.c_record.specs.declared.Record.{Record}

-- One call: the kind of the event, the version in use of an outcome, and the bytes
pub record EventCall : Type 0 where
  pub kind : ℕ
  pub value : ℕ
  pub bytes : List ℕ

-- The record after the calls, each on the record that the one before it left
unfoldable pub run_calls : Record → List EventCall → Record
run_calls r [] = r
run_calls r (c ∷ calls) = run_calls (step_record r c.kind c.value c.bytes).left calls

-- The numbers that the calls were answered with, in order. 255 is no answer of an event
unfoldable pub numbers_to : Record → List EventCall → List ℕ
numbers_to r [] = []
numbers_to r (c ∷ calls) =
    let s = step_record r c.kind c.value c.bytes in
    cond (eqb s.refusal not_valid) (numbers_to s.left calls) (s.refusal ∷ numbers_to s.left calls)

-- The events of the calls; a call of an unknown kind is none
abbrev pub event_before : Option Event → List ℕ → List Handed → List Handed
event_before None bytes later = later
event_before (Some e) bytes later = record { event = e; bytes = bytes } ∷ later

unfoldable pub events_of : List EventCall → List Handed
events_of [] = []
events_of (c ∷ calls) = event_before (event_of c.kind c.value) c.bytes (events_of calls)

-- The kind and the value of the call for an event
abbrev pub kind_of : Event → ℕ
kind_of Datagram = 0
kind_of PacketProcessed = 1
kind_of (Outcome v Given) = 2
kind_of (Outcome v Missing) = 3

abbrev pub value_of : Event → ℕ
value_of Datagram = 0
value_of PacketProcessed = 0
value_of (Outcome v p) = v

-- "Has completed", read from the end mark of the record
abbrev pub has_completed : Record → Bool
has_completed r = eqb r.end_mark 1

-- A client that acted, completed, and completed against this Available list, which holds the version in use
abbrev pub RecordCompletedAgainst : List ℕ → Input → List EventCall → ℕ → Type 0
RecordCompletedAgainst available x calls attempted =
    CompletedBy (has_completed (run_calls (start_record x).left calls)) available x (events_of calls) attempted
