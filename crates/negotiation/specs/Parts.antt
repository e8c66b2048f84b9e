-- What the writer's private functions ask and answer. No public promise names it.
use Rattle.std.specs.Prelude.{ℕ, ◌+◌, ◌*◌, List, ◌∷◌, ◌++◌, length}
use Rattle.refusals.specs.Reply.{Reply, Reply.answered}
use Rattle.refusals.specs.Rule.{judged}
use Rattle.refusals.specs.declared.Call.TheVariants.{Writing}
use Rattle.lists.specs.Wire.{bytes_of, list_bytes, version_bytes}
use Rattle.negotiation.specs.Packet.{list_sent, offer_rules}

-- The packet's length, by the received connection IDs and the two lists
abbrev pub count_of : (destination source offered reserved : List ℕ) → ℕ
count_of destination source offered reserved =
    7 + (length destination + length source + version_bytes * (length offered + length reserved))

-- The packet's bytes, by the received connection IDs: `packet_for`, where the datagram is complete
unfoldable pub packet_of : (destination source list : List ℕ) → ℕ → List ℕ
packet_of destination source list unused_bits =
    ((128 + unused_bits) ∷ bytes_of 0) ++
    ((length source ∷ source) ++
    ((length destination ∷ destination) ++
    list_bytes list))

-- The answer to a complete long form of a version: what is left to judge is the offer
unfoldable pub offer_answer : ℕ → (destination source offered reserved : List ℕ) → ℕ → ℕ → Reply (List ℕ)
offer_answer version destination source offered reserved unused_bits room =
    judged Writing
    (offer_rules version (count_of destination source offered reserved) offered reserved unused_bits room)
    (answered (packet_of destination source (list_sent offered reserved) unused_bits))
