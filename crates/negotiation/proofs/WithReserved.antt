-- Reserved numbers at the end of the packet (document 02, C-18). With none the writer answers what it answered before; the
-- earlier right-hand side is written out. A received version that is reserved is never a 24.
use Prim.Native.Nat.{ℕ}
use mathlib.Core.Bool.{Bool, true, false, not, ◌&&◌, ◌||◌, true≢false}
use mathlib.Core.List.{List, [], ◌∷◌, append-nil}
use mathlib.Core.Path.{◌≡◌, refl, ap}
use native.Mathlib.Omega.{arith}
use lib.Dec.{eqb, ltb}
use lib.ListN.{length}
use Rattle.refusals.specs.Reply.{Reply.answered, refuse, refusal_of}
use Rattle.refusals.specs.Rule.{Rule, Rule.◌when◌, judged}
use Rattle.refusals.specs.declared.Call.TheVariants.{Writing}
use Rattle.refusals.proofs.Rules.{lowest-append}
use Rattle.versions.specs.Reserved.{each_reserved, reserved_keep_rule}
use Rattle.versions.specs.Table.{elem, table_keeps_rule}
use Rattle.versions.specs.Version.{reserved}
use Rattle.versions.proofs.WithoutReserved.{reserved-not-in-table}
use Rattle.invariants.specs.Header.{is_long, version_of, long_truncated}
use Rattle.invariants.specs.Limits.{max_datagram}
use Rattle.negotiation.specs.Limits.{max_unused_bits, min_answered_datagram}
use Rattle.negotiation.specs.Packet.{list_sent, packet_length, packet_for, negotiation_packet}

-- The rules before C-18
abbrev earlier_rules : List ℕ → List ℕ → ℕ → ℕ → List Rule
earlier_rules received offered unused_bits room =
    (11 when ltb max_datagram (length received)) ∷
    (12 when eqb (length received) 0 || (is_long received && long_truncated received)) ∷
    (20 when ltb (length received) min_answered_datagram) ∷
    (21 when not (is_long received)) ∷
    (22 when eqb (version_of received) 0) ∷
    (23 when not (table_keeps_rule offered)) ∷
    (24 when elem (version_of received) offered) ∷
    (25 when ltb max_unused_bits unused_bits) ∷
    (26 when ltb room (packet_length received offered)) ∷
    []

pub packet-as-before : (received offered : List ℕ) (unused_bits room : ℕ) →
    negotiation_packet received offered [] unused_bits room ≡
    judged Writing (earlier_rules received offered unused_bits room) (answered (packet_for received offered unused_bits))
unfolding negotiation_packet reserved_keep_rule each_reserved elem
packet-as-before received offered unused_bits room =
    rw (append-nil offered)
    (lowest-append (refuse Writing) (answered (packet_for received offered unused_bits))
    (earlier_rules received offered unused_bits room) ((28 when false) ∷ []))

-- 24 is the number of its own rule alone, and of that only where 23 does not apply
not-24 : (r11 r12 r20 r21 r22 kept among r25 r26 r28 : Bool) (bytes : List ℕ) → (kept ≡ true → among ≡ false) →
    refusal_of
    (judged Writing
    ((11 when r11) ∷ (12 when r12) ∷ (20 when r20) ∷ (21 when r21) ∷ (22 when r22) ∷ (23 when not kept) ∷ (24 when among) ∷
    (25 when r25) ∷ (26 when r26) ∷ (28 when r28) ∷ [])
    (answered bytes)) ≡ 24 → ⊥
not-24 true r12 r20 r21 r22 kept among r25 r26 r28 bytes none h = omega (arith, h)
not-24 false true r20 r21 r22 kept among r25 r26 r28 bytes none h = omega (arith, h)
not-24 false false true r21 r22 kept among r25 r26 r28 bytes none h = omega (arith, h)
not-24 false false false true r22 kept among r25 r26 r28 bytes none h = omega (arith, h)
not-24 false false false false true kept among r25 r26 r28 bytes none h = omega (arith, h)
not-24 false false false false false false among r25 r26 r28 bytes none h = omega (arith, h)
not-24 false false false false false true true r25 r26 r28 bytes none h = true≢false (none refl)
not-24 false false false false false true false true r26 r28 bytes none h = omega (arith, h)
not-24 false false false false false true false false true r28 bytes none h = omega (arith, h)
not-24 false false false false false true false false false true bytes none h = omega (arith, h)
not-24 false false false false false true false false false false bytes none h = omega (arith, h)

-- A received version that is not in an offered table which keeps its rule is never a 24
pub other-never-24 : (received offered numbers : List ℕ) (unused_bits room : ℕ) →
    (table_keeps_rule offered ≡ true → elem (version_of received) offered ≡ false) →
    negotiation_packet received offered numbers unused_bits room ≡ refuse Writing 24 → ⊥
unfolding negotiation_packet
other-never-24 received offered numbers unused_bits room other h =
    not-24 (ltb max_datagram (length received)) (eqb (length received) 0 || (is_long received && long_truncated received))
    (ltb (length received) min_answered_datagram) (not (is_long received)) (eqb (version_of received) 0)
    (table_keeps_rule offered) (elem (version_of received) offered) (ltb max_unused_bits unused_bits)
    (ltb room (packet_length received (list_sent offered numbers)))
    (not (reserved_keep_rule numbers) || elem (version_of received) numbers)
    (packet_for received (list_sent offered numbers) unused_bits) other (ap refusal_of h)

-- So one that is reserved never is. (It is a 28 where it is given too.)
pub reserved-never-24 : (received offered numbers : List ℕ) (unused_bits room : ℕ) → reserved (version_of received) ≡ true →
    negotiation_packet received offered numbers unused_bits room ≡ refuse Writing 24 → ⊥
reserved-never-24 received offered numbers unused_bits room r h =
    other-never-24 received offered numbers unused_bits room
    (λ kept. reserved-not-in-table offered (version_of received) kept r) h
