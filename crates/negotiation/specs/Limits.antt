-- The limits of the Version Negotiation packet's writer.
use Rattle.std.specs.Prelude.{ℕ, ◌+◌, ◌*◌}
use Rattle.versions.specs.Limits.{max_table, max_reserved}
use Rattle.lists.specs.Wire.{version_bytes}
use Rattle.invariants.specs.Limits.{max_connection_id}

-- Document 01: "a number 0 to 127 for the unused bits"
abbrev pub max_unused_bits : ℕ
max_unused_bits = 127

-- Document 02, C-13: "when the received datagram is under 1,200 bytes". RFC 9000 section 14.1: a client expands every
-- datagram with an Initial packet to at least 1200 bytes, so in version 1 no smaller one opens a connection
abbrev pub min_answered_datagram : ℕ
min_answered_datagram = 1200

-- The most bytes of a packet. Document 01: "7 plus both ID lengths plus 4 per entry". Document 02, C-14: "so the largest
-- packet sent is 773 bytes"; C-18: "The packet's size limit grows by 16."
abbrev pub max_packet : ℕ
max_packet = 7 + (max_connection_id + (max_connection_id + version_bytes * (max_table + max_reserved)))
