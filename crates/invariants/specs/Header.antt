-- RFC 8999 sections 5.1, 5.2 and 6: what a datagram may hold, and what the reader answers.
use Rattle.std.specs.Prelude.{ℕ, ◌+◌, ◌%◌, Bool, cond, not, ◌&&◌, ◌||◌, List, [], ◌∷◌, eqb, leb, ltb, length, get_or, take, drop, Result, Ok, Err}
use Rattle.refusals.specs.Reply.{Reply, Reply.answered, refuse}
use Rattle.refusals.specs.Rule.{Rule, Rule.◌when◌, judged, clear}
use Rattle.refusals.specs.declared.Call.TheVariants.{Reading}
use Rattle.refusals.specs.declared.Refusal.{Refusal}
use Rattle.lists.specs.Wire.{number_at, entries, version_bytes}
use Rattle.lists.specs.declared.Span.{Span}
use Rattle.invariants.specs.Limits.{max_datagram, max_connection_id}
use Rattle.invariants.specs.declared.Header.{Header}
use Rattle.invariants.specs.declared.Header.TheVariants.{Long, Short, VersionNegotiation}

-- Document 01: "First byte 128 or more: long form"
abbrev pub is_long : List ℕ → Bool
is_long datagram = leb 128 (get_or datagram 0 0)

-- "Then 4 bytes of version"
abbrev pub version_of : List ℕ → ℕ
version_of datagram = number_at datagram 1

-- "1 byte destination ID length, that ID"; a byte past the end counts as 0
abbrev pub destination_length : List ℕ → ℕ
destination_length datagram = get_or datagram 5 0

-- "1 byte source ID length, that ID"
abbrev pub source_length : List ℕ → ℕ
source_length datagram = get_or datagram (6 + destination_length datagram) 0

-- Where a long form's source ID begins
abbrev pub source_start : List ℕ → ℕ
source_start datagram = 7 + destination_length datagram

-- Where a long form's rest begins: "the least length is 7"
abbrev pub rest_start : List ℕ → ℕ
rest_start datagram = source_start datagram + source_length datagram

abbrev pub destination_id : List ℕ → List ℕ
destination_id datagram = take (destination_length datagram) (drop 6 datagram)

abbrev pub source_id : List ℕ → List ℕ
source_id datagram = take (source_length datagram) (drop (source_start datagram) datagram)

abbrev pub rest_of : List ℕ → List ℕ
rest_of datagram = drop (rest_start datagram) datagram

-- "Long form with version 0: Version Negotiation"
abbrev pub is_version_negotiation : List ℕ → Bool
is_version_negotiation datagram = is_long datagram && eqb (version_of datagram) 0

-- The versions that a Version Negotiation packet lists. "An entry of 0 there is only an entry that no table holds"
abbrev pub listed : List ℕ → List ℕ
listed datagram = entries (rest_of datagram)

-- A field of a long form runs past the end. (Bytes past the end count as 0 above, so the sum is over the length
-- where a length byte itself is past it.)
abbrev pub long_truncated : List ℕ → Bool
long_truncated datagram = ltb (length datagram) (rest_start datagram)

-- "The destination ID follows at once; its length, 0 to 255, is told by the caller"
abbrev pub short_truncated : List ℕ → ℕ → Bool
short_truncated datagram told = ltb max_connection_id told || ltb (length datagram) (1 + told)

-- 12: "empty, a field runs past the end, or a short form's told length is over 255"
abbrev pub truncated : List ℕ → ℕ → Bool
truncated datagram told =
    eqb (length datagram) 0 || cond (is_long datagram) (long_truncated datagram) (short_truncated datagram told)

-- 13: "Version Negotiation list empty, or bytes left over"
abbrev pub not_whole : List ℕ → Bool
not_whole bytes = eqb (length bytes) 0 || not (eqb (length bytes % version_bytes) 0)

abbrev pub header_rules : List ℕ → ℕ → List Rule
header_rules datagram told =
    (11 when ltb max_datagram (length datagram)) ∷
    (12 when truncated datagram told) ∷
    (13 when is_version_negotiation datagram && not_whole (rest_of datagram)) ∷
    []

-- "The reader answers the form, the version and where each ID and the rest lie."
pub data Form : Type 0 where
  long : (version : ℕ) → (destination source rest : Span) → Form
  short : (destination rest : Span) → Form
  version_negotiation : (destination source list : Span) → Form

abbrev pub span : ℕ → ℕ → Span
span from to = record { start = from; end = to }

abbrev pub long_form_of : List ℕ → Form
long_form_of datagram =
    let destination = span 6 (6 + destination_length datagram) in
    let source = span (source_start datagram) (rest_start datagram) in
    let rest = span (rest_start datagram) (length datagram) in
    cond (eqb (version_of datagram) 0) (version_negotiation destination source rest)
    (long (version_of datagram) destination source rest)

abbrev pub form_of : List ℕ → ℕ → Form
form_of datagram told =
    cond (is_long datagram) (long_form_of datagram) (short (span 1 (1 + told)) (span (1 + told) (length datagram)))

unfoldable pub read_header : List ℕ → ℕ → Reply Form
read_header datagram told = judged Reading (header_rules datagram told) (answered (form_of datagram told))

-- The cases of `Header`
abbrev pub form_in : Header → Form
form_in (Long version destination source rest) = long version destination source rest
form_in (Short destination rest) = short destination rest
form_in (VersionNegotiation destination source list) = version_negotiation destination source list

-- The result of the reader
abbrev pub header_reply : Result Header Refusal → Reply Form
header_reply (Ok header) = answered (form_in header)
header_reply (Err r) = refuse Reading r.0

-- The datagram is a Version Negotiation packet that the reader reads (a long form ignores the told length)
unfoldable pub is_readable_negotiation : List ℕ → Bool
is_readable_negotiation datagram = clear (header_rules datagram 0) && is_version_negotiation datagram
