-- The premises of both theorems can be met, with the lists of P10: a server that reads, accepts, offers and lists 4 and 3, with the
-- pair 3 to 4; a client with the table 3, 4, 1, 2, the pairs 1 to 2 and 3 to 4, of which the first is barred, and the Original
-- Version 1. The version in use, 4, is not the attempted one, 3. Reserved numbers are in the packet and in the client's list, a
-- version is barred at the server, and refused events stand around.
use Prim.Native.Nat.{ℕ, ◌≤◌}
use mathlib.Core.List.{List, [], ◌∷◌, ◌++◌}
use mathlib.Core.Path.{◌≡◌, refl}
use native.Mathlib.Omega.{arith}
use Rattle.refusals.specs.Reply.{Reply.answered}
use Rattle.versions.specs.Pairs.{paired, pair_keeps_rule, each_pair_keeps_rule, pairs_keep_rule}
use Rattle.versions.specs.Reserved.{each_reserved, reserved_keep_rule}
use Rattle.versions.specs.Table.{elem, entries_keep_rule, table_keeps_rule, place_of}
use Rattle.versions.specs.Version.{reserved, usable}
use Rattle.versions.specs.Words.{word_where, members}
use Rattle.lists.specs.Wire.{all_below, entries, list_bytes}
use Rattle.choosing.specs.Choice.{preferred}
use Rattle.invariants.specs.Header.{is_readable_negotiation}
use Rattle.negotiation.specs.Packet.{packet_for, negotiation_packet}
use Rattle.information.specs.Information.{information_bytes}
use Rattle.information.specs.Presence.{Presence.Given}
use Rattle.server.specs.FirstFlight.{Act.use-version, may_use, first_accepted, decide}
use Rattle.attempt.specs.AsSent.{given_for, sent_from, list_as_sent, is_taken, each_given_keeps_rule, given_keep_rule}
use Rattle.attempt.specs.Attempt.{padded, own_of}
use Rattle.attempt.specs.Demand.{acted_with, Handshake, first_outcome}
use Rattle.attempt.specs.Events.{Handed, journaled_run, answers_to}
use Rattle.attempt.specs.Journaled.{journaled_step}
use Rattle.attempt.specs.OwnList.{may_be_answered, word_of, word_for, rows_for}
use Rattle.attempt.specs.Start.{Input, input_of, start_of, opened}
use Rattle.attempt.specs.Step.{Effect.acts, same, on_datagram, on_processed, on_outcome, step_of}
use Rattle.attempt.specs.declared.Attempt.{Attempt}
use Rattle.attempt.specs.Event.{Event.Datagram, Event.PacketProcessed, Event.Outcome}
use Rattle.client_information.specs.ClientInformation.{information_as_sent}
use Rattle.both_ends.specs.Configuration.{Configuration, configuration_of, within, keeps_safe_rule, is_safe}
use Rattle.both_ends.specs.Exchange.{all_ignored, no_outcome, server_information, Informed, Ends, Served, Exchange, Completes, negotiated_with}
use Rattle.both_ends.specs.Exchange.{CompletedWith, NotLedDown}
use Rattle.both_ends.proofs.Course.{Course.completed-with, flight_in, honest_course}
use Rattle.both_ends.proofs.Forged.{never-led-down}
use Rattle.both_ends.proofs.Honest.{honest-exchange, direct-exchange}

abbrev server : Configuration
server = configuration_of (3 ∷ 4 ∷ []) (4 ∷ 3 ∷ []) (4 ∷ 3 ∷ []) (3 ∷ 4 ∷ []) ((3 ∷ 4 ∷ []) ∷ [])

abbrev client : Input
client =
    input_of (3 ∷ 4 ∷ 1 ∷ 2 ∷ []) ((1 ∷ 2 ∷ []) ∷ (3 ∷ 4 ∷ []) ∷ []) ((1 ∷ 2 ∷ []) ∷ []) 1 (0xAA ∷ 0xBB ∷ []) (0xCC ∷ [])

-- A packet to a connection with a source ID of one byte
abbrev packet_to : ℕ → List ℕ → Handed
packet_to source list =
    record { event = Datagram; bytes = 0x80 ∷ 0 ∷ 0 ∷ 0 ∷ 0 ∷ 1 ∷ source ∷ 2 ∷ 0xAA ∷ 0xBB ∷ list_bytes list }

-- 61: no packet at all, 63: of another connection, 64: it lists the Original Version
abbrev around : List Handed
around = record { event = Datagram; bytes = 0x40 ∷ [] } ∷ packet_to 0xCD (4 ∷ 3 ∷ []) ∷ packet_to 0xCC (1 ∷ 3 ∷ []) ∷ []

-- ---- an honest exchange

abbrev own-packet : List ℕ
own-packet = packet_for (flight_in client 1) (4 ∷ 3 ∷ 0x1A2A3A4A ∷ []) 5

pub exchange : Exchange server client
unfolding all_ignored negotiation_packet packet_for list_bytes entries all_below each_reserved reserved_keep_rule paired pair_keeps_rule
    each_pair_keeps_rule pairs_keep_rule elem entries_keep_rule table_keeps_rule reserved usable is_readable_negotiation same
exchange =
    record {
      accepted = refl;
      before = around;
      ignored = refl;
      packet = own-packet;
      negotiated = record {
        flight = flight_in client 1;
        version = refl;
        destination = refl;
        source = refl;
        reserved = 0x1A2A3A4A ∷ [];
        unused_bits = 5;
        room = 22;
        written = refl;
        bytes = refl;
        versions = refl;
      };
    }

pub completes : Completes exchange 3
unfolding is_safe keeps_safe_rule within paired pair_keeps_rule each_pair_keeps_rule pairs_keep_rule elem entries_keep_rule table_keeps_rule
    reserved usable preferred
completes = honest-exchange server client exchange 3 refl refl

-- After the act a late packet and a packet that was processed; then the second flight, with two reserved numbers in the list
abbrev between : List Handed
between = packet_to 0xCC (4 ∷ []) ∷ record { event = PacketProcessed; bytes = [] } ∷ []

abbrev information : List ℕ
information = information_bytes 3 (3 ∷ 0x0A0A0A0A ∷ 4 ∷ 0x1A2A3A4A ∷ [])

abbrev flying : Attempt
flying = journaled_run (negotiated_with exchange) between

informed : Informed flying information
unfolding information_as_sent given_for sent_from list_as_sent is_taken each_given_keeps_rule given_keep_rule all_below exchange packet_for paired
    pair_keeps_rule each_pair_keeps_rule pairs_keep_rule preferred elem entries_keep_rule table_keeps_rule reserved usable entries list_bytes
    is_readable_negotiation padded own_of journaled_run journaled_step members word_where word_of word_for rows_for may_be_answered start_of
    opened step_of on_datagram on_processed same
informed =
    record {
      given = (0x1A2A3A4A ∷ 3 ∷ []) ∷ (0x0A0A0A0A ∷ 1 ∷ []) ∷ [];
      room = 20;
      written = refl;
      versions = refl;
    }

-- Chosen among the barred versions has no effect
pub served : Served server (3 ∷ 9 ∷ []) flying 3 information
unfolding no_outcome
served = completes.served between refl (3 ∷ 9 ∷ []) (omega arith) information informed

pub uses-4 : decide server.readable server.accepted server.pairs (3 ∷ 9 ∷ []) 3 Given information ≡ answered (use-version 4)
unfolding decide may_use first_accepted paired pair_keeps_rule each_pair_keeps_rule pairs_keep_rule elem entries_keep_rule table_keeps_rule
    reserved usable entries list_bytes
uses-4 = refl

-- The same with nothing around, nothing barred and no reserved numbers
pub goes-on-with-4 : honest_course server client ≡ completed-with 3 4
unfolding negotiation_packet packet_for list_bytes entries each_reserved reserved_keep_rule paired pair_keeps_rule each_pair_keeps_rule
    pairs_keep_rule preferred elem entries_keep_rule table_keeps_rule reserved usable is_readable_negotiation padded own_of
    journaled_step members word_where word_of word_for rows_for may_be_answered start_of opened step_of on_datagram on_outcome same
    information_as_sent given_for sent_from list_as_sent each_given_keeps_rule given_keep_rule may_use first_accepted decide
goes-on-with-4 = refl

-- ---- a client that was never negotiated with

-- It begins in 3, which is offered
abbrev direct-client : Input
direct-client = input_of (3 ∷ 4 ∷ []) ((3 ∷ 4 ∷ []) ∷ []) [] 3 (0xAA ∷ 0xBB ∷ []) (0xCC ∷ [])

pub direct : Ends server (start_of direct-client).attempt 4
unfolding is_safe keeps_safe_rule within decide may_use first_accepted information_as_sent given_for sent_from list_as_sent each_given_keeps_rule
    given_keep_rule all_below paired pair_keeps_rule each_pair_keeps_rule pairs_keep_rule elem entries_keep_rule table_keeps_rule reserved usable
    entries list_bytes padded own_of journaled_run members word_where word_of word_for rows_for may_be_answered start_of opened
direct =
    direct-exchange server refl refl [] (start_of direct-client).attempt (information_bytes 3 (3 ∷ 4 ∷ [])) 4
    (record { input = direct-client; accepted = refl; events = []; reached = refl }) refl refl
    (record { given = []; room = 12; written = refl; versions = refl }) refl

-- ---- a packet that is forged

-- It lists 3 and a version of nobody; the server's own packet comes too late; a second outcome changes nothing
abbrev night : Configuration → List Handed
night c =
    around ++
    (packet_to 0xCC (99 ∷ 3 ∷ []) ∷ packet_to 0xCC (4 ∷ 3 ∷ []) ∷ record { event = PacketProcessed; bytes = [] } ∷
    record { event = Outcome 4 Given; bytes = server_information c 4 } ∷ record { event = Outcome 2 Given; bytes = [] } ∷ [])

-- A server that offers the Original Version too
abbrev offers-1 : Configuration
offers-1 = configuration_of (3 ∷ 4 ∷ 1 ∷ []) (4 ∷ 3 ∷ 1 ∷ []) (4 ∷ 1 ∷ 3 ∷ []) (3 ∷ 4 ∷ 1 ∷ []) ((3 ∷ 4 ∷ []) ∷ [])

pub answers : answers_to (start_of client).attempt (night server) ≡ 61 ∷ 63 ∷ 64 ∷ 0 ∷ 62 ∷ 0 ∷ 0 ∷ 62 ∷ []
unfolding answers_to journaled_step paired pair_keeps_rule each_pair_keeps_rule pairs_keep_rule preferred elem entries_keep_rule table_keeps_rule
    reserved usable entries list_bytes is_readable_negotiation padded own_of members word_where word_of word_for rows_for may_be_answered
    start_of opened step_of on_datagram on_processed on_outcome same
answers = refl

abbrev handshake_of : Configuration → Handshake
handshake_of c = record { in_use = 4; presence = Given; bytes = server_information c 4 }

pub completed-night : CompletedWith server client (night server) 3
unfolding journaled_run journaled_step acted_with first_outcome paired pair_keeps_rule each_pair_keeps_rule pairs_keep_rule preferred elem
    entries_keep_rule table_keeps_rule reserved usable entries list_bytes is_readable_negotiation padded own_of members word_where word_of
    word_for rows_for may_be_answered start_of opened step_of on_datagram on_processed on_outcome same
completed-night =
    record {
      accepted = refl;
      acted = refl;
      completed = refl;
      handshake = handshake_of server;
      first = refl;
      given = refl;
      available = refl;
      in_use = refl;
    }

pub not-led-down : NotLedDown completed-night
unfolding is_safe keeps_safe_rule within paired pair_keeps_rule each_pair_keeps_rule pairs_keep_rule elem entries_keep_rule table_keeps_rule
    reserved usable
not-led-down = never-led-down server client (night server) 3 completed-night refl

-- and the server's own packet leads to 3 too
pub own-packet-leads-to-3 : (journaled_step (start_of client).attempt Datagram own-packet).reply ≡ answered (acts 3)
unfolding exchange
own-packet-leads-to-3 = not-led-down.own-packet own-packet exchange.negotiated

completed-offering-1 : CompletedWith offers-1 client (night offers-1) 3
unfolding journaled_run journaled_step acted_with first_outcome paired pair_keeps_rule each_pair_keeps_rule pairs_keep_rule preferred elem
    entries_keep_rule table_keeps_rule reserved usable entries list_bytes is_readable_negotiation padded own_of members word_where word_of
    word_for rows_for may_be_answered start_of opened step_of on_datagram on_processed on_outcome same
completed-offering-1 =
    record {
      accepted = refl;
      acted = refl;
      completed = refl;
      handshake = handshake_of offers-1;
      first = refl;
      given = refl;
      available = refl;
      in_use = refl;
    }

-- 3 does not stand behind 1, the Original Version, which is offered
pub not-behind-1 : place_of 3 client.table ≤ place_of 1 client.table
unfolding is_safe keeps_safe_rule within paired pair_keeps_rule each_pair_keeps_rule pairs_keep_rule elem entries_keep_rule table_keeps_rule
    reserved usable
not-behind-1 = (never-led-down offers-1 client (night offers-1) 3 completed-offering-1 refl).not_behind refl
