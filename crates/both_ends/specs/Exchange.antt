-- What both ends of a link come to: an honest exchange of a client with a server, and a client that acted on any packet
-- whatever and completed with a server's Available list. The terms are those of the contracts: `start_of`, `journaled_step`,
-- `client_information_of` of the client, `negotiation_packet`, `decide`, `information_to_write` of the server. A version is a number
-- of 32 bits and a datagram is of bytes: a slice tells it of its elements, here `all_below` asks it.
use Rattle.std.specs.Prelude.{ℕ, ◌^◌, ◌≤◌, Bool, true, false, not, ◌&&◌, List, [], ◌∷◌, ◌≡◌, length}
use Rattle.std.specs.Prelude.{Some}
use Rattle.refusals.specs.Reply.{Reply.answered}
use Rattle.versions.specs.Table.{elem, place_of}
use Rattle.lists.specs.Wire.{all_below}
use Rattle.choosing.specs.Choice.{preferred}
use Rattle.invariants.specs.Header.{version_of, destination_id, source_id}
use Rattle.negotiation.specs.Packet.{list_sent, negotiation_packet}
use Rattle.information.specs.Information.{available_of, information_bytes, information_length, information_to_write}
use Rattle.information.specs.Presence.{Presence.Given}
use Rattle.information.specs.declared.Sender.TheVariants as sender
use Rattle.server.specs.FirstFlight.{Act.use-version, decide}
use Rattle.server.specs.Limits.{max_barred}
use Rattle.attempt.specs.Attempt.{own_as_sent, is_completed}
use Rattle.attempt.specs.Demand.{fits, acted_with, Handshake, first_outcome}
use Rattle.attempt.specs.Events.{Handed, journaled_run}
use Rattle.attempt.specs.Journaled.{journaled_step}
use Rattle.attempt.specs.Start.{Input, is_accepted, start_of}
use Rattle.attempt.specs.Step.{Effect.acts, Effect.completes}
use Rattle.attempt.specs.declared.Attempt.{Attempt}
use Rattle.attempt.specs.declared.End.TheVariants as end
use Rattle.attempt.specs.Event.{Event, Event.Datagram, Event.PacketProcessed, Event.Outcome}
use Rattle.client_information.specs.ClientInformation.{client_information_of}
use Rattle.both_ends.specs.Configuration.{Configuration}

-- ---- events around an exchange

-- A datagram that does not fit: 61, 63 or 64, and a client that waits goes on waiting
abbrev pub is_ignored : Input → Event → List ℕ → Bool
is_ignored x Datagram bytes = not (fits x bytes)
is_ignored x PacketProcessed bytes = false
is_ignored x (Outcome in_use presence) bytes = false

unfoldable pub all_ignored : Input → List Handed → Bool
all_ignored x [] = true
all_ignored x (e ∷ es) = is_ignored x e.event e.bytes && all_ignored x es

-- Any datagrams, and packets that were processed, but no outcome
abbrev pub is_no_outcome : Event → Bool
is_no_outcome Datagram = true
is_no_outcome PacketProcessed = true
is_no_outcome (Outcome in_use presence) = false

unfoldable pub no_outcome : List Handed → Bool
no_outcome [] = true
no_outcome (e ∷ es) = is_no_outcome e.event && no_outcome es

-- ---- what goes over the wire

-- The server's packet answers the client's first flight, a datagram in the Original Version with the client's connection IDs,
-- with whatever reserved numbers and unused bits
pub record Negotiated (c : Configuration) (x : Input) (packet : List ℕ) : Type 0 where
  pub flight : List ℕ
  pub version : version_of flight ≡ x.original
  pub destination : destination_id flight ≡ x.destination
  pub source : source_id flight ≡ x.source
  pub reserved : List ℕ
  pub unused_bits : ℕ
  pub room : ℕ
  pub written : negotiation_packet flight c.offered reserved unused_bits room ≡ answered packet
  pub bytes : all_below 256 flight ≡ true
  pub versions : all_below (2 ^ 32) (list_sent c.offered reserved) ≡ true

-- The Version Information of a client's flight, as the client's call writes it from its record, with whatever reserved numbers
-- at whatever places
pub record Informed (a : Attempt) (information : List ℕ) : Type 0 where
  pub given : List (List ℕ)
  pub room : ℕ
  pub written : client_information_of a given room ≡ answered information
  pub versions : all_below (2 ^ 32) (own_as_sent a given) ≡ true

-- The server's Version Information: the version in use as Chosen, and its Available list
abbrev pub server_information : Configuration → ℕ → List ℕ
server_information c in_use = information_bytes in_use c.available

-- ---- an honest exchange

-- The outcome of the server's handshake with a version in use completes the client's attempt: the server's writer writes its
-- information wherever there is room, the client answers that it completes, and no later event changes that
pub record Ends (c : Configuration) (a : Attempt) (in_use : ℕ) : Type 0 where
  pub written : (room : ℕ) → information_length c.available ≤ room →
      information_to_write sender.Server in_use c.available room ≡ answered (server_information c in_use)
  pub completes : (journaled_step a (Outcome in_use Given) (server_information c in_use)).reply ≡ answered (completes in_use)
  pub stays : (later : List Handed) →
      (journaled_run (journaled_step a (Outcome in_use Given) (server_information c in_use)).attempt later).end ≡ end.Completed in_use

-- The server uses a version for a client's flight in the attempted one, and the outcome completes the attempt, whatever comes
-- in between
pub record Served (c : Configuration) (barred : List ℕ) (a : Attempt) (attempted : ℕ) (information : List ℕ) : Type 0 where
  pub in_use : ℕ
  pub uses : decide c.readable c.accepted c.pairs barred attempted Given information ≡ answered (use-version in_use)
  pub ends : (between : List Handed) → no_outcome between ≡ true → Ends c (journaled_run a between) in_use

-- A client has started, may have been handed datagrams that it ignores, and is handed the server's packet
pub record Exchange (c : Configuration) (x : Input) : Type 0 where
  pub accepted : is_accepted x ≡ true
  pub before : List Handed
  pub ignored : all_ignored x before ≡ true
  pub packet : List ℕ
  pub negotiated : Negotiated c x packet

-- Its record when the packet comes, and after it
abbrev pub waiting : {c : Configuration} {x : Input} → Exchange c x → Attempt
waiting {c} {x} e = journaled_run (start_of x).attempt e.before

abbrev pub negotiated_with : {c : Configuration} {x : Input} → Exchange c x → Attempt
negotiated_with e = (journaled_step (waiting e) Datagram e.packet).attempt

-- The exchange completes: the client acts with a version; and from then on, whatever comes in between, whatever is barred at the
-- server for the flight, its second flight in that version is served
pub record Completes {c : Configuration} {x : Input} (e : Exchange c x) (attempted : ℕ) : Type 0 where
  pub acts : (journaled_step (waiting e) Datagram e.packet).reply ≡ answered (acts attempted)
  pub served : (between : List Handed) → no_outcome between ≡ true → (barred : List ℕ) → length barred ≤ max_barred →
      (information : List ℕ) → Informed (journaled_run (negotiated_with e) between) information →
      Served c barred (journaled_run (negotiated_with e) between) attempted information

-- ---- a forged packet, or one that is not

-- A client acted on whatever packet, and completed by a first outcome with information given that has the server's Available
-- list, and with a version in use that the server accepts
pub record CompletedWith (c : Configuration) (x : Input) (events : List Handed) (attempted : ℕ) : Type 0 where
  pub accepted : is_accepted x ≡ true
  pub acted : acted_with x events ≡ Some attempted
  pub completed : is_completed (journaled_run (start_of x).attempt events).end ≡ true
  pub handshake : Handshake
  pub first : first_outcome events ≡ Some handshake
  pub given : handshake.presence ≡ Given
  pub available : available_of handshake.bytes ≡ c.available
  pub in_use : elem handshake.in_use c.accepted ≡ true

-- It was not led down: what it attempted is what it would choose from the whole offer. Where the Original Version is not
-- offered, that is what the server's own packet leads to; where it is, the attempted version does not stand behind it in the
-- client's table
pub record NotLedDown {c : Configuration} {x : Input} {events : List Handed} {attempted : ℕ} (d : CompletedWith c x events attempted) : Type 0 where
  pub choice : preferred x.table c.offered ≡ Some attempted
  pub own-packet : (packet : List ℕ) → Negotiated c x packet →
      (journaled_step (start_of x).attempt Datagram packet).reply ≡ answered (acts attempted)
  pub not_behind : elem x.original c.offered ≡ true → place_of attempted x.table ≤ place_of x.original x.table
