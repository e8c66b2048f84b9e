-- What happens to an attempt. An event comes with bytes: the datagram, or the Version Information that is given.
use Rattle.std.specs.Prelude.{ℕ, List, []}
use Rattle.attempt.specs.declared.Event as code
use Rattle.attempt.specs.declared.Event.TheVariants as given
use Rattle.information.specs.Presence.{Presence, presence_of, bytes_given}

-- Document 01: "A datagram", "Heard", "Outcome. The handshake layer hands the version in use and Version Information, or says
-- that it is missing"
pub data Event : Type 0 where
  Datagram : Event
  PacketProcessed : Event
  Outcome : ℕ → Presence → Event

-- An event of the code: the event, and its bytes
abbrev pub event_in : code.Event → Event
event_in (given.Datagram datagram) = Datagram
event_in given.PacketProcessed = PacketProcessed
event_in (given.Outcome in_use information) = Outcome in_use (presence_of information)

abbrev pub bytes_in : code.Event → List ℕ
bytes_in (given.Datagram datagram) = datagram.now
bytes_in given.PacketProcessed = []
bytes_in (given.Outcome in_use information) = bytes_given information
