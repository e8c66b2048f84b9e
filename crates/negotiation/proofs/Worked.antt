-- The whole case of documents 01 and 02, the writer's refusals about 1,200 bytes, and reserved numbers. Each is computed
-- from the definitions alone.
use Prim.Native.Nat.{ℕ, ◌≤◌}
use mathlib.Core.List.{List, [], ◌∷◌, ◌++◌}
use mathlib.Core.Path.{◌≡◌, refl}
use lib.ListN.{length, replicate}
use Rattle.refusals.specs.Reply.{Reply, Reply.answered, refuse}
use Rattle.refusals.specs.declared.Call.TheVariants.{Writing}
use Rattle.versions.specs.Reserved.{each_reserved, reserved_keep_rule}
use Rattle.versions.specs.Table.{elem, entries_keep_rule, table_keeps_rule}
use Rattle.versions.specs.Version.{reserved, usable}
use Rattle.lists.specs.Wire.{all_below, bytes_of, list_bytes}
use Rattle.negotiation.specs.Laws.{ReadBack}
use Rattle.negotiation.specs.Packet.{packet_for, negotiation_packet}
use Rattle.negotiation.proofs.Packets.{read_back, never-longer}

-- Document 01: "received `C0 00 00 00 0C 02 AA BB 01 CC FF`, offered 14, 13, 10, bits 64"
abbrev pub case_bytes : List ℕ
case_bytes = 0xC0 ∷ 0x00 ∷ 0x00 ∷ 0x00 ∷ 0x0C ∷ 0x02 ∷ 0xAA ∷ 0xBB ∷ 0x01 ∷ 0xCC ∷ 0xFF ∷ []

abbrev pub case_offered : List ℕ
case_offered = 14 ∷ 13 ∷ 10 ∷ []

-- Document 02, C-13: "the same case followed by zeros up to 1,200"
abbrev pub case_received : List ℕ
case_received = case_bytes ++ replicate 1189 0

-- "the 22 bytes `C0 00 00 00 00 01 CC 02 AA BB 00 00 00 0E 00 00 00 0D 00 00 00 0A`"
abbrev pub case_packet : List ℕ
case_packet =
    0xC0 ∷ 0x00 ∷ 0x00 ∷ 0x00 ∷ 0x00 ∷ 0x01 ∷ 0xCC ∷ 0x02 ∷ 0xAA ∷ 0xBB ∷
    0x00 ∷ 0x00 ∷ 0x00 ∷ 0x0E ∷ 0x00 ∷ 0x00 ∷ 0x00 ∷ 0x0D ∷ 0x00 ∷ 0x00 ∷ 0x00 ∷ 0x0A ∷ []

pub whole-case : negotiation_packet case_received case_offered [] 64 22 ≡ answered case_packet
unfolding negotiation_packet packet_for list_bytes table_keeps_rule entries_keep_rule reserved_keep_rule each_reserved elem usable reserved
whole-case = refl

-- It meets the premises of `read_back` and of `never-longer`
pub whole-case-read : ReadBack case_received case_offered case_packet
unfolding all_below
whole-case-read = read_back case_received case_offered [] 64 22 case_packet whole-case refl refl

pub whole-case-no-longer : length case_packet ≤ length case_received
unfolding all_below
whole-case-no-longer = never-longer case_received case_offered [] 64 22 case_packet whole-case refl

-- The answer to bytes followed by so many zeros, the rest as in the whole case
abbrev answer_to : List ℕ → ℕ → Reply (List ℕ)
answer_to bytes zeros = negotiation_packet (bytes ++ replicate zeros 0) case_offered [] 64 22

-- "judged after 11 and 12 and before 21"
pub record AtTheLimit : Type 0 where
  -- "Document 01's 11-byte whole case becomes a 20"
  pub eleven : answer_to case_bytes 0 ≡ refuse Writing 20
  -- one byte under the limit, and one over it
  pub under : answer_to case_bytes 1188 ≡ refuse Writing 20
  pub over : answer_to case_bytes 1190 ≡ answered case_packet
  -- 12 before 20: no bytes, and a long form whose source ID of 255 bytes is cut
  pub empty : answer_to [] 0 ≡ refuse Writing 12
  pub cut : answer_to (0xC0 ∷ 0 ∷ 0 ∷ 0 ∷ 12 ∷ 0 ∷ 255 ∷ []) 254 ≡ refuse Writing 12
  pub whole : answer_to (0xC0 ∷ 0 ∷ 0 ∷ 0 ∷ 12 ∷ 0 ∷ 255 ∷ []) 255 ≡ refuse Writing 20
  -- 20 before 21
  pub short : answer_to (0x40 ∷ []) 1198 ≡ refuse Writing 20
  pub short-large : answer_to (0x40 ∷ []) 1199 ≡ refuse Writing 21
  -- 20 before 22, where the list of versions is whole, and where one byte is left over
  pub list-whole : answer_to (0x80 ∷ []) 1198 ≡ refuse Writing 20
  pub list-left-over : answer_to (0x80 ∷ []) 1195 ≡ refuse Writing 20
  pub list-whole-large : answer_to (0x80 ∷ []) 1202 ≡ refuse Writing 22
  pub list-left-over-large : answer_to (0x80 ∷ []) 1199 ≡ refuse Writing 22

pub at-the-limit : AtTheLimit
unfolding negotiation_packet packet_for list_bytes table_keeps_rule entries_keep_rule reserved_keep_rule each_reserved elem usable reserved
at-the-limit =
    record {
      eleven = refl;
      under = refl;
      over = refl;
      empty = refl;
      cut = refl;
      whole = refl;
      short = refl;
      short-large = refl;
      list-whole = refl;
      list-left-over = refl;
      list-whole-large = refl;
      list-left-over-large = refl;
    }

-- Reserved numbers (document 02, C-18), after the 1,200 bytes of the whole case with this version received, in a buffer with
-- room for so many bytes
abbrev greased : ℕ → List ℕ → ℕ → Reply (List ℕ)
greased version numbers room =
    negotiation_packet ((0xC0 ∷ bytes_of version) ++ (0x02 ∷ 0xAA ∷ 0xBB ∷ 0x01 ∷ 0xCC ∷ 0xFF ∷ replicate 1189 0)) case_offered
    numbers 64 room

abbrev one : List ℕ
one = 0x0A0A0A0A ∷ []

abbrev four : List ℕ
four = 0x1A2A3A4A ∷ 0x0A0A0A0A ∷ 0xFAFAFAFA ∷ 0x5A6A7A8A ∷ []

pub record WithReserved : Type 0 where
  -- the packet ends with them, in the order given
  pub ends : greased 12 one 26 ≡ answered (case_packet ++ list_bytes one)
  pub ends-with-four : greased 12 four 38 ≡ answered (case_packet ++ list_bytes four)
  -- 26 counts all that are given, and comes before 28
  pub no_room : greased 12 four 37 ≡ refuse Writing 26
  pub no-room-for-five : greased 12 (0x2A2A2A2A ∷ four) 41 ≡ refuse Writing 26
  -- over four, not reserved, repeated
  pub five : greased 12 (0x2A2A2A2A ∷ four) 42 ≡ refuse Writing 28
  pub not-reserved : greased 12 (0x0A0A0A0B ∷ []) 26 ≡ refuse Writing 28
  pub repeated : greased 12 (0x0A0A0A0A ∷ 0x1A2A3A4A ∷ 0x0A0A0A0A ∷ []) 34 ≡ refuse Writing 28
  -- the version received, which is reserved: a 28 where it is given, and never a 24
  pub received : greased 0x0A0A0A0A one 26 ≡ refuse Writing 28
  pub received-not-given : greased 0x1A2A3A4A one 26 ≡ answered (case_packet ++ list_bytes one)

pub with-reserved : WithReserved
unfolding negotiation_packet packet_for list_bytes table_keeps_rule entries_keep_rule reserved_keep_rule each_reserved elem usable reserved
with-reserved =
    record {
      ends = refl;
      ends-with-four = refl;
      no_room = refl;
      no-room-for-five = refl;
      five = refl;
      not-reserved = refl;
      repeated = refl;
      received = refl;
      received-not-given = refl;
    }
