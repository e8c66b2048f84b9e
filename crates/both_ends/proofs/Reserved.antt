-- Reserved numbers on the wire change nothing at the other end (document 02, C-18; RFC 9000 section 6.3): a packet with them
-- gives every client's event the answer and the record that one without them gives, and the client's information with them
-- gives every server the choice that it makes without.
use Prim.Native.Nat.{ℕ, ◌^◌, ◌<◌}
use mathlib.Core.Bool.{true, false, not, ◌||◌}
use mathlib.Core.List.{List, [], ◌∷◌, ◌++◌, append-nil}
use mathlib.Core.Path.{◌≡◌, sym, ap, ◌∙◌}
use lib.Dec.{leb}
use lib.ListN.{length}
use Rattle.refusals.specs.Reply.{Reply, Reply.answered}
use Rattle.refusals.specs.Rule.{Rule.◌when◌, lowest}
use Rattle.refusals.proofs.Rules.{both_true}
use Rattle.versions.specs.Limits.{max_reserved}
use Rattle.versions.specs.Reserved.{reserved_keep_rule, without_reserved}
use Rattle.versions.specs.Table.{elem}
use Rattle.versions.proofs.WithoutReserved.{same-without, without-append, without-each, table-not-reserved}
use Rattle.lists.specs.Wire.{all_below}
use Rattle.information.specs.Presence.{Presence.Given}
use Rattle.choosing.specs.Choice.{preferred}
use Rattle.choosing.proofs.Laws.{preferred-by-membership}
use Rattle.invariants.specs.Header.{destination_id, source_id, is_readable_negotiation}
use Rattle.invariants.proofs.Negotiations.{negotiation_in, readable-is-read}
use Rattle.negotiation.specs.Laws.{ReadBack}
use Rattle.negotiation.specs.Packet.{list_sent, negotiation_packet}
use Rattle.negotiation.proofs.Packets.{negotiated, read_back}
use Rattle.attempt.specs.Attempt.{table_of, destination_of, source_of, own_as_sent}
use Rattle.attempt.specs.Events.{Reachable}
use Rattle.attempt.specs.Journaled.{journaled, journaled_step}
use Rattle.attempt.specs.Step.{After, same, is_late, unchanged, act_on, on_datagram, step_of}
use Rattle.attempt.specs.declared.Attempt.{Attempt}
use Rattle.attempt.specs.Event.{Event.Datagram}
use Rattle.attempt.proofs.Chosen.{attempt-keeps}
use Rattle.attempt.proofs.ReservedChosen.{original-unreserved, own-unreserved, attempted-own}
use Rattle.client_information.specs.ClientInformation.{client_information_of}
use Rattle.server.specs.FirstFlight.{Act, decide}
use Rattle.server.proofs.Unseen.{reserved-unseen}
use Rattle.client_information.proofs.ReadAgain.{client-bytes, client-few, client-own}

-- ---- packets

-- What an event does with a readable packet, by its connection IDs and its list
abbrev on_list : Attempt → List ℕ → List ℕ → List ℕ → After
on_list a destination source list =
    lowest (unchanged a)
    ((61 when false) ∷
    (62 when is_late a) ∷
    (63 when not (same destination (source_of a)) || not (same source (destination_of a))) ∷
    (64 when elem a.original list) ∷
    [])
    (act_on a (preferred (table_of a) list))

on-packet : (a : Attempt) (received sent packet : List ℕ) → ReadBack received sent packet →
    step_of a Datagram packet ≡ on_list a (source_id received) (destination_id received) sent
unfolding step_of on_datagram
on-packet a received sent packet b =
    let readable : is_readable_negotiation packet ≡ true = readable-is-read packet ∙ ap negotiation_in (b.reads 0) in
    rw (readable, b.destination-swapped, b.source-swapped, b.list-kept)

-- Lists that differ by reserved numbers alone
on-lists : (a : Attempt) (destination source list other : List ℕ) → Reachable a → without_reserved list ≡ without_reserved other →
    on_list a destination source list ≡ on_list a destination source other
on-lists a destination source list other r differ =
    let held = same-without list other differ in
    rw (
      held a.original (original-unreserved a r),
      preferred-by-membership (table_of a) list other
          (λ v e. held v (table-not-reserved (table_of a) v (attempt-keeps a r) e)),
    )

-- What is listed, without reserved numbers, is the offered table without any
pub sent-offered : (offered numbers : List ℕ) → reserved_keep_rule numbers ≡ true →
    without_reserved (list_sent offered numbers) ≡ without_reserved offered
unfolding reserved_keep_rule
sent-offered offered numbers h =
    let none = without-each numbers (both_true (leb (length numbers) max_reserved) _ h).1 in
    without-append offered numbers ∙ ap (λ (l : List ℕ). without_reserved offered ++ l) none ∙
    append-nil (without_reserved offered)

-- Two packets that answer one datagram with one offered table, whatever reserved numbers each ends with (none, too), whatever
-- the unused bits: every client's event gives the same answer and record
pub same-event : (a : Attempt) (received offered numbers others : List ℕ) (bits other_bits room other_room : ℕ) (packet other : List ℕ)
    → Reachable a
    → negotiation_packet received offered numbers bits room ≡ answered packet
    → negotiation_packet received offered others other_bits other_room ≡ answered other
    → all_below 256 received ≡ true → all_below (2 ^ 32) (list_sent offered numbers) ≡ true
    → all_below (2 ^ 32) (list_sent offered others) ≡ true
    → journaled_step a Datagram packet ≡ journaled_step a Datagram other
unfolding journaled_step
same-event a received offered numbers others bits other_bits room other_room packet other r written written' bytes below below' =
    let rule = (negotiated received offered numbers bits room packet written).0.offer.numbers in
    let rule' = (negotiated received offered others other_bits other_room other written').0.offer.numbers in
    ap journaled
    (on-packet a received (list_sent offered numbers) packet (read_back received offered numbers bits room packet written bytes below) ∙
    on-lists a (source_id received) (destination_id received) (list_sent offered numbers) (list_sent offered others) r
    (sent-offered offered numbers rule ∙ sym (sent-offered offered others rule')) ∙
    sym (on-packet a received (list_sent offered others) other (read_back received offered others other_bits other_room other written' bytes below')))

-- ---- information

-- Two informations that the client's call writes from one record, whatever reserved numbers each has (none, too), and at
-- whatever places: every server makes the same choice, with any tables, pairs, barred versions, and for any first flight
pub same-choice : (a : Attempt) (given others : List (List ℕ)) (room other_room : ℕ) (bytes other : List ℕ) → Reachable a
    → client_information_of a given room ≡ answered bytes → client_information_of a others other_room ≡ answered other
    → a.attempted < 2 ^ 32 → all_below (2 ^ 32) (own_as_sent a given) ≡ true → all_below (2 ^ 32) (own_as_sent a others) ≡ true
    → (readable accepted : List ℕ) (pairs : List (List ℕ)) (barred : List ℕ) (version : ℕ)
    → decide readable accepted pairs barred version Given bytes ≡ decide readable accepted pairs barred version Given other
same-choice a given others room other_room bytes other r written written' small below below' readable accepted pairs barred version =
    ap choice (sym (client-bytes a given room bytes r written)) ∙
    reserved-unseen readable accepted pairs barred version a.attempted (own_as_sent a given) (own_as_sent a others)
    (client-few a given room bytes r written) (client-few a others other_room other r written') small below below'
    (own-unreserved a a.attempted r (attempted-own a r))
    (client-own a given room bytes r written ∙ sym (client-own a others other_room other r written')) ∙
    ap choice (client-bytes a others other_room other r written')
  where
    choice : List ℕ → Reply Act
    choice information = decide readable accepted pairs barred version Given information
