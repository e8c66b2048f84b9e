-- A whole exchange as the calls answer it, for cases that are computed: the client's first flight in the Original Version, a
-- packet that the packet writer writes with a list (the server's, or a forged one), the client's second flight, the server's
-- choice with nothing barred, and the outcome with the server's information.
use Prim.Native.Nat.{ℕ}
use mathlib.Core.List.{List, [], ◌∷◌, ◌++◌}
use lib.ListN.{length, replicate}
use Rattle.refusals.specs.Reply.{Reply, Reply.refused, Reply.answered, refusal_of}
use Rattle.lists.specs.Wire.{bytes_of}
use Rattle.negotiation.specs.Limits.{max_packet, min_answered_datagram}
use Rattle.negotiation.specs.Packet.{negotiation_packet}
use Rattle.information.specs.Limits.{max_information}
use Rattle.information.specs.Presence.{Presence.Given}
use Rattle.server.specs.FirstFlight.{Act, Act.negotiate, Act.use-version, decide}
use Rattle.attempt.specs.Journaled.{journaled_step}
use Rattle.attempt.specs.Start.{Input, start_of}
use Rattle.attempt.specs.Step.{Effect}
use Rattle.attempt.specs.declared.Attempt.{Attempt}
use Rattle.attempt.specs.Event.{Event.Datagram, Event.Outcome}
use Rattle.client_information.specs.ClientInformation.{client_information_of}
use Rattle.both_ends.specs.Configuration.{Configuration}
use Rattle.both_ends.specs.Exchange.{server_information}

pub data Course : Type 0 where
  -- the packet writer refuses with a number: nothing is sent
  silent : ℕ → Course
  -- the client refuses the packet with a number
  ignored : ℕ → Course
  -- the client's call, or the server's choice, refuses with a number
  refused-flight : ℕ → Course
  -- the client attempts a version, the server negotiates again, and its packet writer refuses with a number, or with none: 0
  negotiated-again : (attempted number : ℕ) → Course
  -- the client attempts a version, one is in use, and it closes with a number, or completes
  closed-with : (attempted in_use number : ℕ) → Course
  completed-with : (attempted in_use : ℕ) → Course

-- A first flight: a long form in a version, with the client's connection IDs, large enough to be answered
abbrev pub flight_in : Input → ℕ → List ℕ
flight_in x version =
    (0xC0 ∷ bytes_of version) ++
    ((length x.destination ∷ x.destination) ++ ((length x.source ∷ x.source) ++ replicate min_answered_datagram 0))

abbrev after_outcome : ℕ → ℕ → Reply Effect → Course
after_outcome attempted in_use (refused n code) = closed-with attempted in_use n
after_outcome attempted in_use (answered effect) = completed-with attempted in_use

abbrev after_choice : Configuration → Input → Attempt → Reply Act → Course
after_choice c x a (refused n code) = refused-flight n
after_choice c x a (answered negotiate) =
    negotiated-again a.attempted (refusal_of (negotiation_packet (flight_in x a.attempted) c.offered [] 0 max_packet))
after_choice c x a (answered (use-version v)) =
    after_outcome a.attempted v (journaled_step a (Outcome v Given) (server_information c v)).reply

abbrev after_information : Configuration → Input → Attempt → Reply (List ℕ) → Course
after_information c x a (refused n code) = refused-flight n
after_information c x a (answered information) =
    after_choice c x a (decide c.readable c.accepted c.pairs [] a.attempted Given information)

abbrev after_event : Configuration → Input → Attempt → Reply Effect → Course
after_event c x a (refused n code) = ignored n
after_event c x a (answered effect) = after_information c x a (client_information_of a [] max_information)

abbrev after_packet : Configuration → Input → Reply (List ℕ) → Course
after_packet c x (refused n code) = silent n
after_packet c x (answered packet) =
    let s = journaled_step (start_of x).attempt Datagram packet in
    after_event c x s.attempt s.reply

-- The course of an exchange whose packet has a list; an honest one has what the server offers
abbrev pub course_with : Configuration → Input → List ℕ → Course
course_with c x list = after_packet c x (negotiation_packet (flight_in x x.original) list [] 0 max_packet)

abbrev pub honest_course : Configuration → Input → Course
honest_course c x = course_with c x c.offered
