-- The attempt's record without enums, as C keeps it.
use Rattle.std.specs.Prelude.{ℕ, Bool, true, cond, ◌&&◌, List, [], eqb, leb, length, replicate}
use Rattle.std.specs.Prelude.{Option, None, Some}
use Rattle.refusals.specs.Reply.{Reply, refuse, refusal_of}
use Rattle.refusals.specs.declared.Call.TheVariants.{Writing}
use Rattle.versions.specs.Limits.{max_table}
use Rattle.information.specs.Presence.{Presence.Missing, Presence.Given}
use Rattle.journal.specs.Journals.{places}
use Rattle.attempt.specs.Attempt.{own_of, closed_with}
use Rattle.attempt.specs.Journaled.{journaled_step}
use Rattle.attempt.specs.Limits.{max_id}
use Rattle.attempt.specs.Start.{Input, start_of}
use Rattle.attempt.specs.Step.{After, could_be_attempt}
use Rattle.attempt.specs.declared.Attempt.{Attempt}
use Rattle.attempt.specs.declared.End.{End}
use Rattle.attempt.specs.declared.End.TheVariants.{Open, Completed, Closed}
use Rattle.attempt.specs.Event.{Event, Event.Datagram, Event.PacketProcessed, Event.Outcome}
use Rattle.client_information.specs.ClientInformation.{client_information_of}
use Rattle.c_record.specs.Numbers.{flag, not_valid}
use Rattle.c_record.specs.declared.Record.{Record}
use Rattle.c_record.specs.declared.RecordAndRefusal.{RecordAndRefusal}

-- End marks: 0 open (value 0), 1 completed with the version, 2 closed with the number
abbrev pub mark_fits : ℕ → ℕ → Bool
mark_fits mark value = cond (eqb mark 0) (eqb value 0) (cond (eqb mark 1) true (eqb mark 2 && leb value 255))

abbrev pub end_of : ℕ → ℕ → End
end_of mark value = cond (eqb mark 0) Open (cond (eqb mark 1) (Completed value) (closed_with value))

abbrev pub mark_of : End → ℕ
mark_of Open = 0
mark_of (Completed v) = 1
mark_of (Closed r) = 2

abbrev pub mark_value : End → ℕ
mark_value Open = 0
mark_value (Completed v) = v
mark_value (Closed r) = r.0

-- The attempt of a record
unfoldable pub attempt_of : Record → Attempt
attempt_of r =
    record {
      table = r.table;
      table_len = r.table_len;
      rows = r.rows;
      destination = r.destination;
      destination_len = r.destination_len;
      source = r.source;
      source_len = r.source_len;
      original = r.original;
      attempted = r.attempted;
      acted = eqb r.acted 1;
      heard = eqb r.heard 1;
      end = end_of r.end_mark r.end_value;
      journal = r.journal;
    }

-- Flags and end mark as the record of an attempt has them
abbrev pub marks_fit : Record → Bool
marks_fit r =
    leb r.acted 1 && (leb r.heard 1 && mark_fits r.end_mark r.end_value)

-- What is judged of any record: its flags, its end mark, its counts, and that its attempted version is in its table. That
-- table, rows, IDs and Original Version are those of one start is not judged, nor is the journal, which no event reads.
unfoldable pub is_record : Record → Bool
is_record r = marks_fit r && could_be_attempt (attempt_of r)

-- The record of an attempt
unfoldable pub record_of : Attempt → Record
record_of a =
    record {
      rows = a.rows;
      table = a.table;
      destination = a.destination;
      source = a.source;
      table_len = a.table_len;
      destination_len = a.destination_len;
      source_len = a.source_len;
      original = a.original;
      attempted = a.attempted;
      acted = flag a.acted;
      heard = flag a.heard;
      end_mark = mark_of a.end;
      end_value = mark_value a.end;
      journal = a.journal;
    }

-- Zeroed memory in a record's place
abbrev pub zeroed : Record
zeroed =
    record {
      rows = replicate max_table 0;
      table = replicate max_table 0;
      destination = replicate max_id 0;
      source = replicate max_id 0;
      table_len = 0;
      destination_len = 0;
      source_len = 0;
      original = 0;
      attempted = 0;
      acted = 0;
      heard = 0;
      end_mark = 0;
      end_value = 0;
      journal = record { answers = replicate places 0; count = 0 };
    }

-- Events: 0 a datagram, 1 a packet was processed, 2 an outcome with information given, 3 one with it missing; the
-- value is the version in use of an outcome, and is not read else
unfoldable pub event_of : ℕ → ℕ → Option Event
event_of kind value =
    cond (eqb kind 0) (Some Datagram)
    (cond (eqb kind 1) (Some PacketProcessed)
    (cond (eqb kind 2) (Some (Outcome value Given)) (cond (eqb kind 3) (Some (Outcome value Missing)) None)))

-- What an event leaves and answers. Its answer is noted (document 02, C-20); what gets 255 is left as found, its journal
-- too
pub record Left : Type 0 where
  pub left : Record
  pub refusal : ℕ

abbrev pub left_after : After → Left
left_after s = record { left = record_of s.attempt; refusal = refusal_of s.reply }

abbrev pub as_found : Record → Left
as_found r = record { left = r; refusal = not_valid }

abbrev pub event_on : Record → List ℕ → Option Event → Left
event_on r bytes None = as_found r
event_on r bytes (Some e) = left_after (journaled_step (attempt_of r) e bytes)

unfoldable pub step_record : Record → ℕ → ℕ → List ℕ → Left
step_record r kind value bytes = cond (is_record r) (event_on r bytes (event_of kind value)) (as_found r)

-- What a start hands over
abbrev pub start_record : Input → Left
start_record x = record { left = record_of (start_of x).attempt; refusal = refusal_of (start_of x).reply }

abbrev pub shown_left : RecordAndRefusal → Left
shown_left s = record { left = s.attempt; refusal = s.refusal }

-- The own list of its attempt; the empty list for a record that could not be an attempt's
unfoldable pub own_record : Record → List ℕ
own_record r = cond (is_record r) (own_of (attempt_of r)) []

-- How many versions it has; none for a record that could not be an attempt's
abbrev pub own_count : Record → Option ℕ
own_count r = cond (is_record r) (Some (length (own_of (attempt_of r)))) None

-- The Version Information that its attempt sends; 255 for a record that could not be an attempt's
unfoldable pub record_information : Record → List (List ℕ) → ℕ → Reply (List ℕ)
record_information r given room =
    cond (is_record r) (client_information_of (attempt_of r) given room) (refuse Writing not_valid)
