-- The premises of the theorems on reserved numbers can be met, with the whole case of document 01: the client that sent it
-- acts on the server's packet with 14, whether it ends with a reserved number or not; and a server makes the same choice for
-- the client of P10, with two reserved numbers in its list and with none.
use Prim.Native.Nat.{ℕ}
use mathlib.Core.List.{List, [], ◌∷◌, ◌++◌}
use mathlib.Core.Path.{◌≡◌, refl}
use native.Mathlib.Omega.{arith}
use Rattle.refusals.specs.Reply.{Reply.answered}
use Rattle.versions.specs.Pairs.{paired, pair_keeps_rule, each_pair_keeps_rule, pairs_keep_rule}
use Rattle.versions.specs.Reserved.{each_reserved, reserved_keep_rule}
use Rattle.versions.specs.Table.{elem, entries_keep_rule, table_keeps_rule}
use Rattle.versions.specs.Version.{reserved, usable}
use Rattle.versions.specs.Words.{word_where, members}
use Rattle.lists.specs.Wire.{all_below, entries, list_bytes}
use Rattle.choosing.specs.Choice.{preferred}
use Rattle.invariants.specs.Header.{is_readable_negotiation}
use Rattle.negotiation.specs.Packet.{packet_for, negotiation_packet}
use Rattle.negotiation.proofs.Worked.{case_received, case_offered, case_packet, whole-case}
use Rattle.information.specs.Information.{information_bytes}
use Rattle.information.specs.Presence.{Presence.Given}
use Rattle.attempt.specs.AsSent.{given_for, sent_from, list_as_sent}
use Rattle.attempt.specs.Attempt.{padded, own_of}
use Rattle.attempt.specs.Events.{journaled_run, Reachable}
use Rattle.attempt.specs.Journaled.{journaled_step}
use Rattle.attempt.specs.OwnList.{may_be_answered, word_of, word_for, rows_for}
use Rattle.attempt.specs.Start.{Input, input_of, start_of, opened}
use Rattle.attempt.specs.Step.{Effect.acts, same, on_datagram, step_of}
use Rattle.attempt.specs.declared.Attempt.{Attempt}
use Rattle.attempt.specs.Event.{Event.Datagram}
use Rattle.client_information.proofs.Worked as client
use Rattle.server.specs.FirstFlight.{decide}
use Rattle.both_ends.proofs.Reserved.{same-event, same-choice}

-- The client of the whole case: table 14, 12, 10, Original 12
abbrev sender : Input
sender = input_of (14 ∷ 12 ∷ 10 ∷ []) [] [] 12 (0xAA ∷ 0xBB ∷ []) (0xCC ∷ [])

abbrev begun : Attempt
begun = (start_of sender).attempt

begun-reachable : Reachable begun
unfolding each_pair_keeps_rule pairs_keep_rule elem entries_keep_rule table_keeps_rule reserved usable journaled_run
begun-reachable = record { input = sender; accepted = refl; events = []; reached = refl }

-- The packet that ends with a reserved number
with_number : negotiation_packet case_received case_offered (0x1A2A3A4A ∷ []) 64 26 ≡ answered (case_packet ++ list_bytes (0x1A2A3A4A ∷ []))
unfolding negotiation_packet packet_for list_bytes table_keeps_rule entries_keep_rule reserved_keep_rule each_reserved elem usable reserved
with_number = refl

pub both-packets : journaled_step begun Datagram (case_packet ++ list_bytes (0x1A2A3A4A ∷ [])) ≡ journaled_step begun Datagram case_packet
unfolding all_below list_bytes
both-packets =
    same-event begun case_received case_offered (0x1A2A3A4A ∷ []) [] 64 64 26 22 _ case_packet begun-reachable with_number whole-case
    refl refl refl

-- and it acts with 14
pub acts-with-14 : (journaled_step begun Datagram case_packet).reply ≡ answered (acts 14)
unfolding preferred each_pair_keeps_rule pairs_keep_rule elem entries_keep_rule table_keeps_rule reserved usable entries list_bytes
    is_readable_negotiation padded word_where word_for rows_for may_be_answered start_of opened step_of on_datagram same journaled_step
acts-with-14 = refl

-- Every server's choice for the client of P10, which attempts 3
pub both-informations : (readable accepted : List ℕ) (pairs : List (List ℕ)) (barred : List ℕ) (version : ℕ) →
    decide readable accepted pairs barred version Given (information_bytes 3 (3 ∷ 0x0A0A0A0A ∷ 4 ∷ 0x1A2A3A4A ∷ [])) ≡
    decide readable accepted pairs barred version Given (information_bytes 3 (3 ∷ 4 ∷ []))
unfolding all_below given_for sent_from list_as_sent paired pair_keeps_rule each_pair_keeps_rule pairs_keep_rule preferred elem entries_keep_rule
    table_keeps_rule reserved usable entries list_bytes is_readable_negotiation padded own_of journaled_run journaled_step members word_where word_of word_for rows_for
    may_be_answered start_of opened step_of on_datagram same
both-informations readable accepted pairs barred version =
    same-choice client.acted client.two [] 20 12 _ _ client.acted-reachable (client.calls).with_two (client.calls).nothing
    (omega arith) refl refl readable accepted pairs barred version
