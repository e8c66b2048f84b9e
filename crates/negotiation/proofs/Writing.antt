-- What the writer's code does, over plain lists: its answer goes with what it leaves, and the parts of the packet are
-- put one behind the other. Below, d and s are the received connection IDs, o
-- the offered table and n the reserved numbers.
use Prim.Native.Nat.{ℕ, ◌+◌, ◌*◌, ◌≤◌}
use mathlib.Core.Bool.{true, false, false≢true}
use mathlib.Core.List.{List, [], ◌∷◌, ◌++◌, append_assoc}
use mathlib.Core.Path.{◌≡◌, refl, sym, ap, ◌∙◌}
use native.Mathlib.Omega.{arith}
use lib.ListN.{length, drop, length-append}
use Rattle.std.specs.Prelude.{Result, Ok, Err}
use Rattle.refusals.specs.Reply.{Reply, Reply.refused, Reply.answered, refuse}
use Rattle.refusals.specs.Rule.{Rule, Rule.◌when◌, judged, clear}
use Rattle.refusals.specs.Written.{written_reply, counted, leaves}
use Rattle.refusals.specs.declared.Call.TheVariants.{Writing}
use Rattle.refusals.specs.declared.Refusal.{Refusal}
use Rattle.refusals.proofs.Rules.{answered-clear, lowest-clear}
use Rattle.versions.specs.Limits.{max_table}
use Rattle.versions.specs.Table.{table_keeps_rule}
use Rattle.versions.proofs.Lists.{table-counts}
use Rattle.lists.specs.Wire.{bytes_of, list_bytes, version_bytes, after_put}
use Rattle.lists.proofs.Entries.{length-list_bytes, list_bytes-append, after_put-room}
use Rattle.negotiation.specs.Packet.{list_sent, offer_rules}
use Rattle.negotiation.specs.Parts.{count_of, packet_of, offer_answer}
use Rattle.negotiation.proofs.Packets.{OfferClear, offer-clear, is_answered}
use Rattle.lists.proofs.Places.{part_from, put_from, over, length-put, length-part_from}

-- ---- answers

-- A refusal leaves the buffer as found
pub refused_leaves : (reply : Reply (List ℕ)) (buffer : List ℕ) (x : Refusal)
    → written_reply (Err x) ≡ counted reply → buffer ≡ leaves reply buffer
refused_leaves (refused m c) buffer x h = refl
refused_leaves (answered bytes) buffer x h = absurd (false≢true (ap is_answered h))

-- The packet is as long as its count says
length-packet_of : (d s o n : List ℕ) (bits : ℕ) → length (packet_of d s (list_sent o n) bits) ≡ count_of d s o n
unfolding packet_of
length-packet_of d s o n bits =
    let b = length-list_bytes (list_sent o n) in
    let e = length-append s ((length d ∷ d) ++ list_bytes (list_sent o n)) in
    let f = length-append d (list_bytes (list_sent o n)) in
    let g = length-append o n in
    omega arith

-- The count is judged as the bytes are
counted-judged : (rules : List Rule) (bytes : List ℕ)
    → judged Writing rules (answered (length bytes)) ≡ counted (judged Writing rules (answered bytes))
counted-judged [] bytes = refl
counted-judged ((n when true) ∷ rules) bytes = refl
counted-judged ((n when false) ∷ rules) bytes = counted-judged rules bytes

-- What `judge` answers, for a received version, connection IDs d and s
module _ (v : ℕ) (d s o n : List ℕ) (bits room : ℕ) where
  -- it is the answer to the datagram
  pub offer_answers : (w : Result ℕ Refusal)
      → written_reply w ≡ judged Writing (offer_rules v (count_of d s o n) o n bits room) (answered (count_of d s o n))
      → written_reply w ≡ counted (offer_answer v d s o n bits room)
  unfolding offer_answer
  offer_answers w h =
      let packet : List ℕ = packet_of d s (list_sent o n) bits in
      h ∙ rw (sym (length-packet_of d s o n bits)) (counted-judged (offer_rules v (length packet) o n bits room) packet)

  -- a count goes with the packet's bytes
  pub count_clear : (k : ℕ)
      → written_reply (Ok k) ≡ judged Writing (offer_rules v (count_of d s o n) o n bits room) (answered (count_of d s o n))
      → OfferClear v (count_of d s o n) o n bits room
      × (offer_answer v d s o n bits room ≡ answered (packet_of d s (list_sent o n) bits))
  unfolding offer_answer
  count_clear k h =
      let rules = offer_rules v (count_of d s o n) o n bits room in
      let clear : clear rules ≡ true = answered-clear Writing (count_of d s o n) k rules h in (
        offer-clear v (count_of d s o n) o n bits room clear,
        lowest-clear (refuse Writing) (answered (packet_of d s (list_sent o n) bits)) rules clear,
      )

-- ---- bytes

-- A list put behind what was put already, where there is room for it
put-behind : (ys l found buffer part : List ℕ) (k : ℕ) → k ≡ length ys → length ys + version_bytes * length l ≤ length found
    → buffer ≡ ys ++ drop (length ys) found → part ≡ after_put l (part_from k buffer)
    → put_from k buffer part ≡ (ys ++ list_bytes l) ++ drop (length (ys ++ list_bytes l)) found
put-behind ys l found buffer part k at room b p =
    let same : length buffer ≡ length found = ap length b ∙ length-put ys found (omega arith) in
    let free : version_bytes * length l ≤ length (part_from k buffer) = rw (length-part_from k buffer, same) (omega arith) in
    over ys (list_bytes l) found buffer part k at b
    (p ∙ after_put-room l (part_from k buffer) free ∙ rw (sym (length-list_bytes l)))

-- The packet put part by part: the front, the IDs, the offered table, the reserved numbers
pub put_parts : (d s o n found : List ℕ) (bits : ℕ) (b₁ p₁ p₂ p₃ p₄ : List ℕ)
    → count_of d s o n ≤ length found
    → let b₂ = put_from 5 b₁ p₁ in
    let b₃ = put_from (6 + length s) b₂ p₂ in
    let b₄ = put_from (7 + length s + length d) b₃ p₃ in
    let behind = 7 + length s + length d + version_bytes * length o in
    b₁ ≡ leaves (answered ((128 + bits) ∷ bytes_of 0)) found
    → p₁ ≡ leaves (answered (length s ∷ s)) (part_from 5 b₁)
    → p₂ ≡ leaves (answered (length d ∷ d)) (part_from (6 + length s) b₂)
    → p₃ ≡ after_put o (part_from (7 + length s + length d) b₃)
    → p₄ ≡ after_put n (part_from behind b₄)
    → put_from behind b₄ p₄ ≡ leaves (answered (packet_of d s (list_sent o n) bits)) found
unfolding packet_of
put_parts d s o n found bits b₁ p₁ p₂ p₃ p₄ room e₁ q₁ q₂ q₃ q₄ =
    let front : List ℕ = (128 + bits) ∷ bytes_of 0 in
    let si : List ℕ = length s ∷ s in
    let di : List ℕ = length d ∷ d in
    let lo : List ℕ = list_bytes o in
    let ln : List ℕ = list_bytes n in
    let b₂ = put_from 5 b₁ p₁ in
    let b₃ = put_from (6 + length s) b₂ p₂ in
    let b₄ = put_from (7 + length s + length d) b₃ p₃ in
    let lb = length-list_bytes o in
    let o₁ : b₂ ≡ (front ++ si) ++ drop (length (front ++ si)) found = over front si found b₁ p₁ 5 refl e₁ q₁ in
    let n₂ : 6 + length s ≡ length (front ++ si) = omega arith in
    let ids : List ℕ = (front ++ si) ++ di in
    let o₂ : b₃ ≡ ids ++ drop (length ids) found = over (front ++ si) di found b₂ p₂ (6 + length s) n₂ o₁ q₂ in
    let a = length-append (front ++ si) di in
    let n₃ : 7 + length s + length d ≡ length ids = omega arith in
    let o₃ : b₄ ≡ (ids ++ lo) ++ drop (length (ids ++ lo)) found =
    put-behind ids o found b₃ p₃ (7 + length s + length d) n₃ (omega arith) o₂ q₃ in
    let m = length-append ids lo in
    let n₄ : 7 + length s + length d + version_bytes * length o ≡ length (ids ++ lo) = omega arith in
    let o₄ = put-behind (ids ++ lo) n found b₄ p₄ _ n₄ (omega arith) o₃ q₄ in
    let lists : lo ++ ln ≡ list_bytes (list_sent o n) = sym (list_bytes-append o n) in
    let whole : (ids ++ lo) ++ ln ≡ front ++ (si ++ (di ++ list_bytes (list_sent o n))) =
    append_assoc ids lo ln ∙ ap (λ (x : List ℕ). ids ++ x) lists ∙ append_assoc (front ++ si) di (list_bytes (list_sent o n)) ∙
    append_assoc front si (di ++ list_bytes (list_sent o n)) in
    o₄ ∙ ap (λ (x : List ℕ). x ++ drop (length x) found) whole

-- ---- sums

-- A table that keeps its rule is short
pub table_short : (t : List ℕ) → table_keeps_rule t ≡ true → length t ≤ max_table
table_short t h = (table-counts t h).1
