-- What the header reader's answer tells of a received datagram r. It is asked with the told length 0, and then it
-- finds a short form truncated only where it is empty, as the writer's rule 12 says.
use Prim.Native.Nat.{ℕ, ◌+◌, ◌*◌, ◌-◌, ◌≤◌}
use mathlib.Core.Bool.{Bool, true, false, cond, not, ◌&&◌, ◌||◌}
use mathlib.Core.List.{List, [], ◌∷◌}
use mathlib.Core.Path.{◌≡◌, refl, sym, ap, ◌∙◌}
use native.Mathlib.Omega.{arith}
use borrow.Author.Tests.{le-ltb, ne_eqb, ltb-false, not-true}
use lib.Dec.{eqb, ltb}
use lib.ListN.{length, take, drop, length-append}
use Rattle.refusals.specs.Reply.{Reply, Reply.answered, refuse}
use Rattle.refusals.specs.Rule.{judged}
use Rattle.refusals.specs.declared.Call.TheVariants.{Reading, Writing}
use Rattle.refusals.proofs.Rules.{both_true, answered-clear, answered-injective, lowest-clear}
use Rattle.lists.specs.Wire.{version_bytes}
use Rattle.lists.specs.declared.Span.{Span}
use Rattle.invariants.specs.Header.{Form.long, Form.short, Form.version_negotiation, is_long, version_of}
use Rattle.invariants.specs.Header.{destination_length, source_length, destination_id, source_id, source_start, rest_start, span}
use Rattle.invariants.specs.Header.{long_truncated, truncated, header_rules, form_of, read_header}
use Rattle.invariants.specs.Limits.{max_datagram}
use Rattle.negotiation.specs.Limits.{min_answered_datagram}
use Rattle.negotiation.specs.Packet.{list_sent, packet_length, packet_for, offer_rules, negotiation_packet}
use Rattle.negotiation.specs.Parts.{packet_of, offer_answer}
use Rattle.negotiation.proofs.Packets.{second-false, length-destination_id, length-source_id}

-- ---- a complete long form

-- What is left to judge of it
abbrev pub left_to_judge : List ℕ → List ℕ → List ℕ → ℕ → ℕ → Reply (List ℕ)
left_to_judge r o n bits room =
    judged Writing (offer_rules (version_of r) (packet_length r (list_sent o n)) o n bits room)
    (answered (packet_for r (list_sent o n) bits))

-- That is the offer, by its connection IDs
pub by_ids : (r o n : List ℕ) (bits room : ℕ) → rest_start r ≤ length r
    → left_to_judge r o n bits room ≡ offer_answer (version_of r) (destination_id r) (source_id r) o n bits room
unfolding offer_answer packet_for packet_of
by_ids r o n bits room h =
    let g = length-append o n in
    let count : packet_length r (list_sent o n) ≡ 7 + (destination_length r + source_length r + version_bytes * (length o + length n)) = omega arith in
    rw (length-destination_id r h, length-source_id r h, count) refl

-- ---- what the header reader's answer tells

-- Document 01: "12 is then judged for emptiness only"
same-12 : (r : List ℕ) → truncated r 0 ≡ (eqb (length r) 0 || (is_long r && long_truncated r))
same-12 [] = refl
same-12 (x ∷ xs) = go (is_long (x ∷ xs)) refl
  where
    go : (b : Bool) → is_long (x ∷ xs) ≡ b → truncated (x ∷ xs) 0 ≡ (eqb (length (x ∷ xs)) 0 || (is_long (x ∷ xs) && long_truncated (x ∷ xs)))
    go true e = rw (e, ne_eqb (length (x ∷ xs)) 0 (λ z. omega arith))
    go false e = rw (e, ne_eqb (length (x ∷ xs)) 0 (λ z. omega arith), le-ltb (length (x ∷ xs)) 1 (omega arith))

-- The form is long only where it was picked as such
picked-long : (is_long' is_zero : Bool) (v w : ℕ) (d s r d' r' D S R : Span)
    → cond is_long' (cond is_zero (version_negotiation d s r) (long v d s r)) (short d' r') ≡ long w D S R
    → (is_long' ≡ true) × ((is_zero ≡ false) × ((v ≡ w) × ((d ≡ D) × (s ≡ S))))
picked-long true true v w d s r d' r' D S R e = let z : ◌≡◌ {A = ℕ} 0 1 = cc in absurd (omega arith)
picked-long true false v w d s r d' r' D S R e = (refl, (refl, (cc, (cc, cc))))
picked-long false is_zero v w d s r d' r' D S R e = let z : ◌≡◌ {A = ℕ} 0 1 = cc in absurd (omega arith)

-- Where its connection IDs lie, and what is left to judge
pub record LongKnown (r : List ℕ) (v : ℕ) (D S : Span) : Type 0 where
  pub destination-is : take (D.end - D.start) (drop D.start r) ≡ destination_id r
  pub source_is : take (S.end - S.start) (drop S.start r) ≡ source_id r
  pub judges : (o n : List ℕ) (bits room : ℕ) → min_answered_datagram ≤ length r
      → negotiation_packet r o n bits room ≡ offer_answer v (destination_id r) (source_id r) o n bits room

pub long-known : (r : List ℕ) (v : ℕ) (D S R : Span) → read_header r 0 ≡ answered (long v D S R) → LongKnown r v D S
unfolding read_header negotiation_packet
long-known r v D S R e =
    let form = form_of r 0 in
    let clear = answered-clear Reading form (long v D S R) (header_rules r 0) (sym e) in
    let over = both_true (not (ltb max_datagram (length r))) _ clear in
    let past = both_true (not (truncated r 0)) _ over.1 in
    let same : form ≡ long v D S R =
    answered-injective _ _ (sym (lowest-clear (refuse Reading) (answered form) (header_rules r 0) clear) ∙ e) in
    let d = span 6 (6 + destination_length r) in
    let s = span (source_start r) (rest_start r) in
    let rest = span (rest_start r) (length r) in
    let p =
    picked-long (is_long r) (eqb (version_of r) 0) (version_of r) v d s rest (span 1 1) (span 1 (length r)) D S R same in
    let inside : (is_long r && long_truncated r) ≡ false =
    second-false (eqb (length r) 0) _ (sym (same-12 r) ∙ not-true _ past.0) in
    let whole : truncated r 0 ≡ false = not-true _ past.0 in
    let complete : rest_start r ≤ length r = ltb-false _ _ (sym (ap (λ (b : Bool). b && long_truncated r) p.0) ∙ inside) in
    let d-long : 6 + destination_length r - 6 ≡ destination_length r = omega arith in
    let s-long : rest_start r - source_start r ≡ source_length r = omega arith in
    record {
      destination-is = rw (← p.1.1.1.0, d-long) refl;
      source_is = rw (← p.1.1.1.1, s-long) refl;
      judges =
          λ o n bits room large.
          rw (not-true _ over.0, sym (same-12 r) ∙ whole, le-ltb (length r) min_answered_datagram large, p.0, p.1.0, ← p.1.1.0)
          (by_ids r o n bits room complete);
    }
