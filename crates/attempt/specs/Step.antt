-- Document 01, "By the console": what an event does to an attempt, and what it answers.
use Rattle.std.specs.Prelude.{ℕ, Bool, true, false, cond, not, ◌&&◌, ◌||◌, List, [], ◌∷◌, ◌++◌, eqb, leb, length}
use Rattle.std.specs.Prelude.{Option, None, Some, Result, Ok, Err}
use Rattle.refusals.specs.Reply.{Reply, Reply.answered, refuse}
use Rattle.refusals.specs.Rule.{Rule, Rule.◌when◌, lowest}
use Rattle.refusals.specs.declared.Call.TheVariants.{Reading}
use Rattle.refusals.specs.declared.Refusal.{Refusal}
use Rattle.choosing.specs.Choice.{preferred}
use Rattle.versions.specs.Limits.{max_table}
use Rattle.versions.specs.Table.{elem}
use Rattle.invariants.specs.Header.{is_readable_negotiation, destination_id, source_id, listed}
use Rattle.information.specs.Information.{chosen_of, available_of, form_rules}
use Rattle.information.specs.Presence.{Presence, Presence.Missing, Presence.Given}
use Rattle.attempt.specs.Attempt.{table_of, destination_of, source_of, own_as_answered, closed_with, is_open, put, ended}
use Rattle.attempt.specs.Limits.{max_id, not_a_record}
use Rattle.attempt.specs.declared.Answer.{Answer}
use Rattle.attempt.specs.declared.Answer.TheVariants as answer
use Rattle.attempt.specs.declared.Attempt.{Attempt}
use Rattle.attempt.specs.declared.End.TheVariants as end
use Rattle.attempt.specs.Event.{Event, Event.Datagram, Event.PacketProcessed, Event.Outcome}
use Rattle.attempt.specs.declared.Stepped.{Stepped}

-- The answers that are no refusal
pub data Effect : Type 0 where
  acts : ℕ → Effect
  notes : Effect
  completes : ℕ → Effect

-- The cases of an event's answer
abbrev pub answer_reply : Result Answer Refusal → Reply Effect
answer_reply (Err r) = refuse Reading r.0
answer_reply (Ok (answer.Acted v)) = answered (acts v)
answer_reply (Ok answer.Noted) = answered notes
answer_reply (Ok (answer.Completed v)) = answered (completes v)

-- What a step hands back: the record and the answer
pub record After : Type 0 where
  pub attempt : Attempt
  pub reply : Reply Effect

abbrev pub shown : Stepped → After
shown s = record { attempt = s.attempt; reply = answer_reply s.answer }

abbrev pub after : Attempt → Effect → After
after a effect = record { attempt = a; reply = answered effect }

-- A refusal that leaves the attempt unchanged
abbrev pub unchanged : Attempt → ℕ → After
unchanged a n = record { attempt = a; reply = refuse Reading n }

-- A refusal that ends the attempt
abbrev pub closed : Attempt → ℕ → After
closed a n = record { attempt = ended a (closed_with n); reply = refuse Reading n }

-- The attempt has completed with the version in use
abbrev pub completed : Attempt → ℕ → After
completed a in_use = after (ended a (end.Completed in_use)) (completes in_use)

-- Equality of byte strings
unfoldable pub same : List ℕ → List ℕ → Bool
same [] [] = true
same [] (y ∷ ys) = false
same (x ∷ xs) [] = false
same (x ∷ xs) (y ∷ ys) = eqb x y && same xs ys

-- 63: "its destination ID is not our source ID, or its source ID not our destination ID"
abbrev pub other_connection : List ℕ → List ℕ → List ℕ → Bool
other_connection destination source datagram =
    not (same (destination_id datagram) source) || not (same (source_id datagram) destination)

-- 62: "attempt ended (any event); or, for Version Negotiation, acted or heard before" (RFC 9000 section 6.2)
abbrev pub is_late : Attempt → Bool
is_late a = not (is_open a.end) || (a.acted || a.heard)

-- "A datagram. Unchanged state with 61 to 64"
abbrev pub datagram_rules : Attempt → List ℕ → List Rule
datagram_rules a datagram =
    (61 when not (is_readable_negotiation datagram)) ∷
    (62 when is_late a) ∷
    (63 when other_connection (destination_of a) (source_of a) datagram) ∷
    (64 when elem a.original (listed datagram)) ∷
    []

-- "or ended with 65; or it acts: the attempted version becomes the choice from the packet's list, and its own list
-- follows"
abbrev pub act_on : Attempt → Option ℕ → After
act_on a None = closed a 65
act_on a (Some v) = after (put a v true a.heard a.end) (acts v)

unfoldable pub on_datagram : Attempt → List ℕ → After
on_datagram a datagram =
    lowest (unchanged a) (datagram_rules a datagram) (act_on a (preferred (table_of a) (listed datagram)))

-- "Heard. A genuine packet other than Version Negotiation was processed." Heard twice is no refusal.
unfoldable pub on_processed : Attempt → After
on_processed a =
    lowest (unchanged a) ((62 when not (is_open a.end)) ∷ [])
    (after (put a a.attempted a.acted true a.end) notes)

-- The choice is the version
abbrev pub picks : Option ℕ → ℕ → Bool
picks None v = false
picks (Some w) v = eqb w v

-- 72 to 75, for the information read. "The choice made again at the outcome doesn't apply rule 64 a second time."
-- Document 02, C-18: rule 72 reads the own list as may be answered, "so a reserved Chosen falls under 72"
abbrev pub outcome_rules : Attempt → ℕ → ℕ → List ℕ → List Rule
outcome_rules a in_use chosen available =
    (72 when not (elem chosen (own_as_answered a))) ∷
    (73 when not (eqb chosen in_use)) ∷
    (74 when a.acted && eqb (length available) 0) ∷
    (75 when a.acted && not (picks (preferred (table_of a) (available ++ (in_use ∷ []))) a.attempted)) ∷
    []

-- "If missing: a client that acted with attempted version 1 reads Chosen 1, Available 1 in its place (RFC 9368
-- section 8); one that acted with another gets 71; one that never acted completes if the version in use is the
-- attempted one, else 73 (our rule)."
abbrev pub missing_rules : Bool → Attempt → ℕ → List Rule
missing_rules true a in_use = (71 when not (eqb a.attempted 1)) ∷ outcome_rules a in_use 1 (1 ∷ [])
missing_rules false a in_use = (73 when not (eqb a.attempted in_use)) ∷ []

-- "At an outcome 31 to 35 are judged on an open attempt only, and end it too."
abbrev pub information_rules : Attempt → ℕ → Presence → List ℕ → List Rule
information_rules a in_use Missing information = missing_rules a.acted a in_use
information_rules a in_use Given information =
    form_rules information ++ outcome_rules a in_use (chosen_of information) (available_of information)

-- "The attempt ends, completed or closed."
unfoldable pub on_outcome : Attempt → ℕ → Presence → List ℕ → After
on_outcome a in_use presence information =
    cond (is_open a.end)
    (lowest (closed a) (information_rules a in_use presence information) (completed a in_use))
    (unchanged a 62)

unfoldable pub step_of : Attempt → Event → List ℕ → After
step_of a Datagram bytes = on_datagram a bytes
step_of a PacketProcessed bytes = on_processed a
step_of a (Outcome in_use presence) bytes = on_outcome a in_use presence bytes

-- The counts of a record are within its arrays, as those of every attempt are
abbrev pub counts_fit : Attempt → Bool
counts_fit a = leb a.table_len max_table && (leb a.destination_len max_id && leb a.source_len max_id)

-- What is judged of any record value: its counts, and that its attempted version is in its table. Every attempt
-- passes; zeroed memory and the record of a refused start do not.
abbrev pub could_be_attempt : Attempt → Bool
could_be_attempt a = counts_fit a && elem a.attempted (table_of a)

-- The step for any record value: one that could not be an attempt's is left as found and refused with a number that
-- is outside document 01
unfoldable pub step_of_any : Attempt → Event → List ℕ → After
step_of_any a event bytes = cond (could_be_attempt a) (step_of a event bytes) (unchanged a not_a_record)
