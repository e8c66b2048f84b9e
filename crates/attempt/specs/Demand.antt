-- Demand 3's terms. "'Has completed' is read from the end mark of the record after the list, which tells completed from
-- closed; all else in the demand is read from the start and the events, never from the record."
use Rattle.std.specs.Prelude.{ℕ, Bool, true, cond, not, List, [], ◌∷◌, ◌++◌, ◌≢◌, ◌≡◌, eqb}
use Rattle.std.specs.Prelude.{Option, None, Some}
use Rattle.refusals.specs.Rule.{Rule.◌when◌, clear}
use Rattle.choosing.specs.Choice.{preferred}
use Rattle.versions.specs.Table.{elem}
use Rattle.invariants.specs.Header.{is_readable_negotiation, listed}
use Rattle.information.specs.Information.{chosen_of, available_of, form_rules}
use Rattle.information.specs.Presence.{Presence, Presence.Missing, Presence.Given}
use Rattle.attempt.specs.Attempt.{is_completed}
use Rattle.attempt.specs.Events.{Handed, run, journaled_run}
use Rattle.attempt.specs.Start.{Input, our_list, is_accepted, start_of}
use Rattle.attempt.specs.Step.{other_connection}
use Rattle.attempt.specs.Event.{Event, Event.Datagram, Event.PacketProcessed, Event.Outcome}

-- "A datagram fits when none of 61, 63 and 64 applies."
abbrev pub fits : Input → List ℕ → Bool
fits x datagram =
    clear
    ((61 when not (is_readable_negotiation datagram)) ∷
    (63 when other_connection x.destination x.source datagram) ∷
    (64 when elem x.original (listed datagram)) ∷
    [])

-- "The client acted when the first datagram that fits comes before any heard or outcome and lists a table entry; the
-- choice from that packet's list is the version we attempted"
abbrev pub acted_at : Input → Event → List ℕ → Option ℕ → Option ℕ
acted_at x Datagram datagram later = cond (fits x datagram) (preferred x.table (listed datagram)) later
acted_at x PacketProcessed bytes later = None
acted_at x (Outcome in_use presence) bytes later = None

unfoldable pub acted_with : Input → List Handed → Option ℕ
acted_with x [] = None
acted_with x (e ∷ es) = acted_at x e.event e.bytes (acted_with x es)

-- That packet, whatever it lists: "the first datagram that fits", where it "comes before any heard or outcome"
abbrev pub fitting_at : Input → Event → List ℕ → Option (List ℕ) → Option (List ℕ)
fitting_at x Datagram datagram later = cond (fits x datagram) (Some datagram) later
fitting_at x PacketProcessed bytes later = None
fitting_at x (Outcome in_use presence) bytes later = None

unfoldable pub first_fitting : Input → List Handed → Option (List ℕ)
first_fitting x [] = None
first_fitting x (e ∷ es) = fitting_at x e.event e.bytes (first_fitting x es)

-- An outcome: "the version in use and Version Information, or .. that it is missing"
pub record Handshake : Type 0 where
  pub in_use : ℕ
  pub presence : Presence
  pub bytes : List ℕ

abbrev pub outcome_at : Event → List ℕ → Option Handshake → Option Handshake
outcome_at Datagram bytes later = later
outcome_at PacketProcessed bytes later = later
outcome_at (Outcome u p) b later = Some (record { in_use = u; presence = p; bytes = b })

-- The first outcome that was handed in
unfoldable pub first_outcome : List Handed → Option Handshake
first_outcome [] = None
first_outcome (e ∷ es) = outcome_at e.event e.bytes (first_outcome es)

pub record VersionInformation : Type 0 where
  pub chosen : ℕ
  pub available : List ℕ

-- RFC 9368 section 8: the information that stands in for a missing one when version 1 is attempted
abbrev pub stand_in : VersionInformation
stand_in = record { chosen = 1; available = 1 ∷ [] }

-- "the authenticated Version Information (if missing and we attempted version 1, its stand-in)". "Well formed: none
-- of 31 to 35 applies. Missing, with a version other than 1 attempted, is not good."
abbrev pub information_read : ℕ → Presence → List ℕ → Option VersionInformation
information_read attempted Missing bytes = cond (eqb attempted 1) (Some stand_in) None
information_read attempted Given bytes =
    cond (clear (form_rules bytes)) (Some (record { chosen = chosen_of bytes; available = available_of bytes })) None

abbrev pub information_of : ℕ → Handshake → Option VersionInformation
information_of attempted h = information_read attempted h.presence h.bytes

-- "Good means: the authenticated Version Information (..) is well formed, its Chosen Version was in our list and is
-- the one in use, its Available list is not empty, and, of that list with the version in use added, the version we
-- attempted is the one we would choose."
pub record Good (x : Input) (attempted : ℕ) (h : Handshake) : Type 0 where
  pub information : VersionInformation
  pub well_formed : information_of attempted h ≡ Some information
  pub in_our_list : elem information.chosen (our_list x attempted) ≡ true
  pub is_in_use : information.chosen ≡ h.in_use
  pub available_not_empty : information.available ≢ []
  pub would_choose : preferred x.table (information.available ++ (h.in_use ∷ [])) ≡ Some attempted

-- A client that acted, completed, and "completed against" this Available list, which holds the version in use. "The
-- list completed against is the first outcome's Available, or its stand-in's." `completed?` is what the end mark of
-- the record after the list tells: that of the steps by value, of the record where it lies, or of the C record.
pub record CompletedBy (completed? : Bool) (available : List ℕ) (x : Input) (events : List Handed) (attempted : ℕ) : Type 0 where
  pub accepted : is_accepted x ≡ true
  pub acted : acted_with x events ≡ Some attempted
  pub completed : completed? ≡ true
  pub handshake : Handshake
  pub first : first_outcome events ≡ Some handshake
  pub information : VersionInformation
  pub read : information_of attempted handshake ≡ Some information
  pub against : information.available ≡ available
  pub holds_version_in_use : elem handshake.in_use available ≡ true

-- The same by the record that document 01's steps hand back
abbrev pub CompletedAgainst : List ℕ → Input → List Handed → ℕ → Type 0
CompletedAgainst available x events attempted =
    CompletedBy (is_completed (run (start_of x).attempt events).end) available x events attempted

-- The same by the record that the steps hand back which note each answer (document 02, C-20)
abbrev pub JournaledCompletedAgainst : List ℕ → Input → List Handed → ℕ → Type 0
JournaledCompletedAgainst available x events attempted =
    CompletedBy (is_completed (journaled_run (start_of x).attempt events).end) available x events attempted
