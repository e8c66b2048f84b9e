-- The Version Negotiation packet: its length, and that the header reader reads back from it what was put in. Below, r
-- is the received datagram, o the offered table, n the reserved numbers, and l what the packet lists.
use Prim.Native.Nat.{ℕ, zero, suc, ◌+◌, ◌-◌, ◌*◌, ◌%◌, ◌^◌, ◌≤◌, ◌<◌}
use mathlib.Core.Bool.{Bool, true, false, not, ◌&&◌, ◌||◌, true≢false}
use mathlib.Core.List.{List, [], ◌∷◌, ◌++◌}
use mathlib.Core.Path.{◌≡◌, refl, sym, ap, ◌∙◌, subst}
use native.Mathlib.Omega.{arith}
use lib.Dec.{eqb, leb, ltb}
use lib.ListN.{length, take, drop, get_or, length-append}
use lib.Seq.{get_or-drop, get_or_at, drop-drop, drop_at, take_at}
use borrow.Author.Tests.{ltb-false, eqb-false, leb-true, not-true, not-false, le-ltb, le-leb, eq-eqb, ne_eqb}
use Rattle.refusals.specs.Reply.{Reply, Reply.refused, Reply.answered}
use Rattle.refusals.specs.Rule.{Rule, Rule.◌when◌, clear}
use Rattle.refusals.specs.declared.Call.TheVariants.{Writing}
use Rattle.refusals.proofs.Rules.{both_true, neither, answer-given}
use Rattle.versions.specs.Limits.{max_reserved}
use Rattle.versions.specs.Reserved.{reserved_keep_rule}
use Rattle.versions.specs.Table.{elem, table_keeps_rule}
use Rattle.lists.specs.Wire.{all_below, entries, list_bytes, version_bytes}
use Rattle.versions.proofs.Lists.{part-rest, table-counts}
use Rattle.lists.proofs.Entries.{all_below-head, entries-list_bytes, length-list_bytes}
use Rattle.invariants.specs.Header.{Form.version_negotiation, span, is_long, version_of, destination_length, source_length}
use Rattle.invariants.specs.Header.{destination_id, source_id, source_start, rest_start, rest_of, listed, long_truncated, not_whole, read_header}
use Rattle.invariants.specs.Limits.{max_datagram}
use Rattle.negotiation.specs.Laws.{ReadBack}
use Rattle.negotiation.specs.Limits.{max_packet, max_unused_bits, min_answered_datagram}
use Rattle.negotiation.specs.Packet.{list_sent, packet_length, packet_for, offer_rules, packet_rules, negotiation_packet}
use Rattle.lists.proofs.Places.{length_part}

-- ---- lengths

pub length-destination_id : (r : List ℕ) → rest_start r ≤ length r → length (destination_id r) ≡ destination_length r
length-destination_id r h = length_part r 6 (destination_length r) (omega arith)

pub length-source_id : (r : List ℕ) → rest_start r ≤ length r → length (source_id r) ≡ source_length r
length-source_id r h = length_part r (source_start r) (source_length r) (omega arith)

-- Document 01: "7 plus both ID lengths plus 4 per entry"
pub length-packet_for : (r l : List ℕ) (bits : ℕ) → rest_start r ≤ length r
    → length (packet_for r l bits) ≡ packet_length r l
unfolding packet_for
length-packet_for r l bits h =
    let d = length-destination_id r h in
    let s = length-source_id r h in
    let b = length-list_bytes l in
    let e = length-append (source_id r) ((destination_length r ∷ destination_id r) ++ list_bytes l) in
    let f = length-append (destination_id r) (list_bytes l) in
    omega arith

-- ---- what holds where a packet is written

-- None of the refusals 23 to 28 applies
pub record OfferClear (v count : ℕ) (o n : List ℕ) (bits room : ℕ) : Type 0 where
  pub table : table_keeps_rule o ≡ true
  pub other : elem v o ≡ false
  pub bits_fit : bits ≤ max_unused_bits
  pub room_fits : count ≤ room
  pub numbers : reserved_keep_rule n ≡ true
  pub not-received : elem v n ≡ false

-- None of the refusals applies
pub record Judged (r o n : List ℕ) (bits room : ℕ) : Type 0 where
  pub limit : length r ≤ max_datagram
  pub long : is_long r ≡ true
  pub complete : rest_start r ≤ length r
  pub large : min_answered_datagram ≤ length r
  pub version : version_of r ≡ 0 → ⊥
  pub offer : OfferClear (version_of r) (packet_length r (list_sent o n)) o n bits room

no-rule : (n : ℕ) (t : Bool) (rules : List Rule) → clear ((n when t) ∷ rules) ≡ true → (t ≡ false) × (clear rules ≡ true)
no-rule n t rules e = let p = both_true (not t) (clear rules) e in (not-true t p.0, p.1)

pub second-false : (a b : Bool) → (a || b) ≡ false → b ≡ false
second-false true b e = absurd (true≢false e)
second-false false b e = e

pub offer-clear : (v count : ℕ) (o n : List ℕ) (bits room : ℕ) → clear (offer_rules v count o n bits room) ≡ true
    → OfferClear v count o n bits room
offer-clear v count o n bits room e =
    let rules = offer_rules v count o n bits room in
    let p23 = no-rule 23 (not (table_keeps_rule o)) (drop 1 rules) e in
    let p24 = no-rule 24 (elem v o) (drop 2 rules) p23.1 in
    let p25 = no-rule 25 (ltb max_unused_bits bits) (drop 3 rules) p24.1 in
    let p26 = no-rule 26 (ltb room count) (drop 4 rules) p25.1 in
    let p28 = neither (not (reserved_keep_rule n)) (elem v n) (both_true _ true p26.1).0 in
    record {
      table = not-false (table_keeps_rule o) p23.0;
      other = p24.0;
      bits_fit = ltb-false max_unused_bits bits p25.0;
      room_fits = ltb-false room count p26.0;
      numbers = not-false (reserved_keep_rule n) p28.0;
      not-received = p28.1;
    }

pub clear-judged : (r o n : List ℕ) (bits room : ℕ) → clear (packet_rules r o n bits room) ≡ true → Judged r o n bits room
clear-judged r o n bits room e =
    let rules = packet_rules r o n bits room in
    let p11 = no-rule 11 (ltb max_datagram (length r)) (drop 1 rules) e in
    let p12 = no-rule 12 (eqb (length r) 0 || (is_long r && long_truncated r)) (drop 2 rules) p11.1 in
    let p20 = no-rule 20 (ltb (length r) min_answered_datagram) (drop 3 rules) p12.1 in
    let p21 = no-rule 21 (not (is_long r)) (drop 4 rules) p20.1 in
    let p22 = no-rule 22 (eqb (version_of r) 0) (drop 5 rules) p21.1 in
    let l = not-false (is_long r) p21.0 in
    let whole = second-false (eqb (length r) 0) (is_long r && long_truncated r) p12.0 in
    let w : long_truncated r ≡ false = ap (λ (b : Bool). b && long_truncated r) (sym l) ∙ whole in
    record {
      limit = ltb-false max_datagram (length r) p11.0;
      long = l;
      complete = ltb-false (length r) (rest_start r) w;
      large = ltb-false (length r) min_answered_datagram p20.0;
      version = eqb-false (version_of r) 0 p22.0;
      offer = offer-clear (version_of r) (packet_length r (list_sent o n)) o n bits room p22.1;
    }

-- Whether a reply is no refusal
abbrev pub is_answered : {A : Type 0} → Reply A → Bool
is_answered (refused n c) = false
is_answered (answered x) = true

-- Where bytes are written they are the packet's, and no refusal applies
pub negotiated : (r o n : List ℕ) (bits room : ℕ) (bytes : List ℕ) → negotiation_packet r o n bits room ≡ answered bytes
    → Judged r o n bits room × (bytes ≡ packet_for r (list_sent o n) bits)
unfolding negotiation_packet
negotiated r o n bits room bytes h =
    let p = answer-given Writing (packet_rules r o n bits room) (packet_for r (list_sent o n) bits) bytes h in
    (clear-judged r o n bits room p.0, sym p.1)

-- Document 02, C-14: "the largest packet sent is 773 bytes"; C-18: "The packet's size limit grows by 16."
pub max_packet-is : max_packet ≡ 773 + 16
max_packet-is = refl

get_or-below : (bound i : ℕ) (s : List ℕ) → 0 < bound → all_below bound s ≡ true → get_or s i 0 < bound
get_or-below bound i [] h e = h
get_or-below bound zero (x ∷ xs) h e = (all_below-head bound x xs e).0
get_or-below bound (suc i) (x ∷ xs) h e = get_or-below bound i xs h (all_below-head bound x xs e).1

-- Reserved numbers that keep their rule are few
few-numbers : (n : List ℕ) → reserved_keep_rule n ≡ true → length n ≤ max_reserved
unfolding reserved_keep_rule
few-numbers n h = leb-true _ _ (both_true (leb (length n) max_reserved) _ h).0

packet-at-most : (r o n : List ℕ) (bits room : ℕ) → Judged r o n bits room → all_below 256 r ≡ true
    → length (packet_for r (list_sent o n) bits) ≤ max_packet
packet-at-most r o n bits room j e =
    let d = get_or-below 256 5 r (omega arith) e in
    let s = get_or-below 256 (6 + destination_length r) r (omega arith) e in
    let t = table-counts o j.offer.table in
    let f = few-numbers n j.offer.numbers in
    let l = length-append o n in
    rw (length-packet_for r (list_sent o n) bits j.complete) (omega arith)

-- Document 01: "The answer is the byte count: 7 plus both ID lengths plus 4 per entry"; document 02, C-18: all numbers that
-- are given among them
pub packet-count : (received offered reserved : List ℕ) (unused_bits room : ℕ) (bytes : List ℕ)
    → negotiation_packet received offered reserved unused_bits room ≡ answered bytes
    → length bytes ≡
    7 + (length (destination_id received) + (length (source_id received) + version_bytes * (length offered + length reserved)))
packet-count r o n bits room bytes h =
    let p = negotiated r o n bits room bytes h in
    let complete = p.0.complete in
    rw (
      p.1,
      length-packet_for r (list_sent o n) bits complete,
      length-destination_id r complete,
      length-source_id r complete,
      length-append o n,
    )

-- "the largest packet sent", with C-18's 16 bytes more
pub count-at-most : (r o n : List ℕ) (bits room : ℕ) (bytes : List ℕ)
    → negotiation_packet r o n bits room ≡ answered bytes → all_below 256 r ≡ true → length bytes ≤ max_packet
count-at-most r o n bits room bytes h e =
    let p = negotiated r o n bits room bytes h in
    rw p.1 (packet-at-most r o n bits room p.0 e)

-- The longest packet is no longer than the smallest datagram that is answered
pub packet-within-datagram : max_packet ≤ min_answered_datagram
packet-within-datagram = omega arith

-- Document 02, C-13: "A box sent more than it had received". A packet that is written is never longer than the
-- datagram that it answers
pub never-longer : (received offered reserved : List ℕ) (unused_bits room : ℕ) (bytes : List ℕ)
    → negotiation_packet received offered reserved unused_bits room ≡ answered bytes
    → all_below 256 received ≡ true → length bytes ≤ length received
never-longer r o n bits room bytes h e =
    let most = count-at-most r o n bits room bytes h e in
    let large = (negotiated r o n bits room bytes h).0.large in
    omega (arith, most, packet-within-datagram, large)

-- ---- the reader reads back what the writer put in

-- The header reader on a Version Negotiation packet that none of its refusals meets
reads-negotiation : (bytes : List ℕ) (told : ℕ) → length bytes ≤ max_datagram → is_long bytes ≡ true
    → version_of bytes ≡ 0 → rest_start bytes ≤ length bytes → not_whole (rest_of bytes) ≡ false
    → read_header bytes told
    ≡ answered (version_negotiation (span 6 (6 + destination_length bytes)) (span (source_start bytes) (rest_start bytes))
    (span (rest_start bytes) (length bytes)))
unfolding read_header
reads-negotiation bytes told limit long version complete whole =
    let some : length bytes ≡ 0 → ⊥ = λ e. absurd (omega arith) in
    rw (le-ltb _ _ limit, ne_eqb _ _ some, long, le-ltb _ _ complete, eq-eqb _ _ version, whole)

-- Where the fields of the packet lie
module _ (r l : List ℕ) (bits : ℕ) (complete : rest_start r ≤ length r) where
  packet-destination_length : destination_length (packet_for r l bits) ≡ source_length r
  unfolding packet_for
  packet-destination_length = refl

  packet-source_length : source_length (packet_for r l bits) ≡ destination_length r
  unfolding packet_for
  packet-source_length =
      sym (get_or-drop 6 (packet_for r l bits) (source_length r) 0) ∙
      get_or_at (source_id r) (destination_length r) (destination_id r ++ list_bytes l) 0 (source_length r)
      (length-source_id r complete)

  packet-destination_id : destination_id (packet_for r l bits) ≡ source_id r
  unfolding packet_for
  packet-destination_id = take_at (source_id r) _ (source_length r) (length-source_id r complete)

  from-source : drop (source_start (packet_for r l bits)) (packet_for r l bits) ≡ destination_id r ++ list_bytes l
  unfolding packet_for
  from-source =
      let bytes = packet_for r l bits in
      let sl = source_length r in
      let z : 7 + sl ≡ 6 + sl + 1 = omega arith in
      let behind = sym (drop-drop sl 6 bytes) ∙ drop_at (source_id r) _ sl (length-source_id r complete) in
      ap (λ (k : ℕ). drop k bytes) z ∙ sym (drop-drop 1 (6 + sl) bytes) ∙ ap (drop 1) behind

  packet-source_id : source_id (packet_for r l bits) ≡ destination_id r
  packet-source_id =
      let bytes = packet_for r l bits in
      ap (λ (k : ℕ). take k (drop (source_start bytes) bytes)) packet-source_length ∙
      ap (take (destination_length r)) from-source ∙
      take_at (destination_id r) (list_bytes l) (destination_length r) (length-destination_id r complete)

  packet-rest_of : rest_of (packet_for r l bits) ≡ list_bytes l
  packet-rest_of =
      let bytes = packet_for r l bits in
      ap (λ (k : ℕ). drop (source_start bytes + k) bytes) packet-source_length ∙
      sym (drop-drop (destination_length r) (source_start bytes) bytes) ∙
      ap (drop (destination_length r)) from-source ∙
      drop_at (destination_id r) (list_bytes l) (destination_length r) (length-destination_id r complete)

list-whole : (l : List ℕ) → 1 ≤ length l → not_whole (list_bytes l) ≡ false
list-whole l h =
    let b = length-list_bytes l in
    let some : length (list_bytes l) ≡ 0 → ⊥ = λ e. absurd (omega arith) in
    let fours : length (list_bytes l) % version_bytes ≡ 0 = omega arith in
    rw (ne_eqb _ _ some, eq-eqb _ _ fours)

packet-long : (r l : List ℕ) (bits : ℕ) → is_long (packet_for r l bits) ≡ true
unfolding packet_for
packet-long r l bits = le-leb 128 (128 + bits) (omega arith)

packet-version : (r l : List ℕ) (bits : ℕ) → version_of (packet_for r l bits) ≡ 0
unfolding packet_for
packet-version r l bits = refl

packet-read : (r o n : List ℕ) (bits room : ℕ) → Judged r o n bits room → all_below 256 r ≡ true
    → all_below (2 ^ 32) (list_sent o n) ≡ true → ReadBack r (list_sent o n) (packet_for r (list_sent o n) bits)
packet-read r o n bits room j er el =
    let l = list_sent o n in
    let bytes = packet_for r l bits in
    let c = j.complete in
    let long = length-packet_for r l bits c in
    let d = packet-destination_length r l bits c in
    let s = packet-source_length r l bits c in
    let rest = packet-rest_of r l bits c in
    let limit : length bytes ≤ max_datagram = omega (arith, packet-at-most r o n bits room j er) in
    let complete : rest_start bytes ≤ length bytes = omega arith in
    let some : 1 ≤ length l = omega (arith, length-append o n, (table-counts o j.offer.table).0) in
    let whole : not_whole (rest_of bytes) ≡ false = ap not_whole rest ∙ list-whole l some in
    let kept : listed bytes ≡ l = ap entries rest ∙ entries-list_bytes l el in
    let nd : 6 + destination_length bytes - 6 ≡ destination_length bytes = omega arith in
    let ns : rest_start bytes - source_start bytes ≡ source_length bytes = omega arith in
    record {
      destination = span 6 (6 + destination_length bytes);
      source = span (source_start bytes) (rest_start bytes);
      list = span (rest_start bytes) (length bytes);
      reads = λ told. reads-negotiation bytes told limit (packet-long r l bits) (packet-version r l bits) complete whole;
      destination-bytes = ap (λ (k : ℕ). take k (drop 6 bytes)) nd ∙ packet-destination_id r l bits c;
      source-bytes = ap (λ (k : ℕ). take k (drop (source_start bytes) bytes)) ns ∙ packet-source_id r l bits c;
      list-bytes = ap entries (part-rest bytes (rest_start bytes)) ∙ kept;
      destination-swapped = packet-destination_id r l bits c;
      source-swapped = packet-source_id r l bits c;
      list-kept = kept;
    }

-- The header reader reads back what the writer put in
pub read_back : (received offered reserved : List ℕ) (unused_bits room : ℕ) (bytes : List ℕ)
    → negotiation_packet received offered reserved unused_bits room ≡ answered bytes
    → all_below 256 received ≡ true → all_below (2 ^ 32) (list_sent offered reserved) ≡ true
    → ReadBack received (list_sent offered reserved) bytes
read_back r o n bits room bytes h er el =
    let p = negotiated r o n bits room bytes h in
    subst (ReadBack r (list_sent o n)) (sym p.1) (packet-read r o n bits room p.0 er el)
