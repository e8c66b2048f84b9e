-- The words of the round trip of a Version Negotiation packet.
use Rattle.std.specs.Prelude.{ℕ, ◌-◌, List, ◌≡◌, take, drop}
use Rattle.refusals.specs.Reply.{Reply.answered}
use Rattle.lists.specs.Wire.{entries}
use Rattle.lists.specs.declared.Span.{Span}
use Rattle.invariants.specs.Header.{Form.version_negotiation, destination_id, source_id, listed, read_header}

-- The bytes that a span shows
abbrev pub bytes_in : Span → List ℕ → List ℕ
bytes_in part bytes = take (part.end - part.start) (drop part.start bytes)

-- Whatever length is told, the bytes read as a Version Negotiation packet in which the IDs are those of the
-- received datagram, swapped, and the list is what was to be sent, in its order
pub record ReadBack (received sent bytes : List ℕ) : Type 0 where
  pub destination : Span
  pub source : Span
  pub list : Span
  pub reads : (told : ℕ) → read_header bytes told ≡ answered (version_negotiation destination source list)
  pub destination-bytes : bytes_in destination bytes ≡ source_id received
  pub source-bytes : bytes_in source bytes ≡ destination_id received
  pub list-bytes : entries (bytes_in list bytes) ≡ sent
  pub destination-swapped : destination_id bytes ≡ source_id received
  pub source-swapped : source_id bytes ≡ destination_id received
  pub list-kept : listed bytes ≡ sent
