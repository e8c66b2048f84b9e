-- The numbers of the packet writer's rules rise, so the lowest that applies is given.
use Prim.Native.Nat.{ℕ}
use mathlib.Core.Bool.{true}
use mathlib.Core.List.{List}
use mathlib.Core.Path.{◌≡◌, refl}
use Rattle.refusals.specs.Rule.{rising}
use Rattle.negotiation.specs.Packet.{offer_rules, packet_rules}

-- 23 to 26, 28
pub offer-rises : (version count : ℕ) (offered reserved : List ℕ) (unused_bits room : ℕ) →
    rising (offer_rules version count offered reserved unused_bits room) ≡ true
offer-rises version count offered reserved unused_bits room = refl

-- 11, 12, 20, 21, 22, then those
pub packet-rises : (received offered reserved : List ℕ) (unused_bits room : ℕ) →
    rising (packet_rules received offered reserved unused_bits room) ≡ true
packet-rises received offered reserved unused_bits room = refl
