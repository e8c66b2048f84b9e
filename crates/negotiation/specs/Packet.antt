-- RFC 8999 section 6, document 01 "The packet the box sends back": the Version Negotiation packet that answers a
-- received datagram.
use Rattle.std.specs.Prelude.{ℕ, ◌+◌, ◌*◌, not, ◌&&◌, ◌||◌, List, [], ◌∷◌, ◌++◌, eqb, ltb, length}
use Rattle.refusals.specs.Reply.{Reply, Reply.answered}
use Rattle.refusals.specs.Rule.{Rule, Rule.◌when◌, judged}
use Rattle.refusals.specs.declared.Call.TheVariants.{Writing}
use Rattle.versions.specs.Reserved.{reserved_keep_rule}
use Rattle.versions.specs.Table.{elem, table_keeps_rule}
use Rattle.lists.specs.Wire.{bytes_of, list_bytes, version_bytes}
use Rattle.invariants.specs.Header.{is_long, version_of, destination_length, source_length, destination_id, source_id, long_truncated}
use Rattle.invariants.specs.Limits.{max_datagram}
use Rattle.negotiation.specs.Limits.{max_unused_bits, min_answered_datagram}

-- What a packet lists. Document 01: "the offered table in its order". Document 02, C-18: "the box's packet may end with up to
-- four" reserved numbers, "in the order given"
abbrev pub list_sent : List ℕ → List ℕ → List ℕ
list_sent offered reserved = offered ++ reserved

-- "7 plus both ID lengths plus 4 per entry"
abbrev pub packet_length : List ℕ → List ℕ → ℕ
packet_length received list =
    7 + (destination_length received + (source_length received + version_bytes * length list))

-- "first byte 128 plus that number, version 0, the received source ID as destination, the received destination ID
-- as source (each with its length), then the offered table in its order"
unfoldable pub packet_for : List ℕ → List ℕ → ℕ → List ℕ
packet_for received list unused_bits =
    ((128 + unused_bits) ∷ bytes_of 0) ++
    ((source_length received ∷ source_id received) ++
    ((destination_length received ∷ destination_id received) ++
    list_bytes list))

-- What the offer decides, for a received version and the length of the packet to write. Document 02, C-18: "Where a number is
-- not reserved, is the version received (packet), repeated, or there are over four .. 28 from the packet writer; 26 .. count
-- all given"
abbrev pub offer_rules : ℕ → ℕ → List ℕ → List ℕ → ℕ → ℕ → List Rule
offer_rules version count offered reserved unused_bits room =
    (23 when not (table_keeps_rule offered)) ∷
    (24 when elem version offered) ∷
    (25 when ltb max_unused_bits unused_bits) ∷
    (26 when ltb room count) ∷
    (28 when not (reserved_keep_rule reserved) || elem version reserved) ∷
    []

-- "packet to answer has the short form (12 is then judged for emptiness only)". Document 02, C-13: "refuses with 20
-- when the received datagram is under 1,200 bytes, judged after 11 and 12 and before 21"
abbrev pub packet_rules : List ℕ → List ℕ → List ℕ → ℕ → ℕ → List Rule
packet_rules received offered reserved unused_bits room =
    (11 when ltb max_datagram (length received)) ∷
    (12 when eqb (length received) 0 || (is_long received && long_truncated received)) ∷
    (20 when ltb (length received) min_answered_datagram) ∷
    (21 when not (is_long received)) ∷
    (22 when eqb (version_of received) 0) ∷
    offer_rules (version_of received) (packet_length received (list_sent offered reserved)) offered reserved unused_bits room

-- The bytes to write into a buffer that has room for so many bytes
unfoldable pub negotiation_packet : List ℕ → List ℕ → List ℕ → ℕ → ℕ → Reply (List ℕ)
negotiation_packet received offered reserved unused_bits room =
    judged Writing (packet_rules received offered reserved unused_bits room)
    (answered (packet_for received (list_sent offered reserved) unused_bits))
