-- Words for the contract of `event_of` in src/events.rt, which is private: an event of a kind, and the bytes that it reads.
use Rattle.std.specs.Prelude.{ℕ, List, [], Option, None, Some}
use Rattle.information.specs.Presence.{Presence.Missing, Presence.Given}
use Rattle.attempt.specs.Event.{Event, Event.Datagram, Event.PacketProcessed, Event.Outcome, event_in, bytes_in}
use Rattle.attempt.specs.Events.{Handed}
use Rattle.attempt.specs.declared.Event as code

-- What an event reads of the bytes that are handed over
abbrev pub bytes_read : Event → List ℕ → List ℕ
bytes_read Datagram bytes = bytes
bytes_read PacketProcessed bytes = []
bytes_read (Outcome in_use Given) bytes = bytes
bytes_read (Outcome in_use Missing) bytes = []

abbrev pub handed_by : Option Event → List ℕ → Option Handed
handed_by None bytes = None
handed_by (Some event) bytes = Some (record { event = event; bytes = bytes_read event bytes })

-- The same, of an event of the code
abbrev pub handed_in : Option code.Event → Option Handed
handed_in None = None
handed_in (Some event) = Some (record { event = event_in event; bytes = bytes_in event })
