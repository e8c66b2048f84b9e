-- The client's Version Information, written from its record. Document 02, C-18: "A call of its own, no event, writes the
-- client's Version Information from the record, with the attempted version as Chosen."
use Rattle.std.specs.Prelude.{ℕ, ◌+◌, ◌*◌, not, List, [], ◌∷◌, ltb}
use Rattle.refusals.specs.Reply.{Reply, Reply.answered}
use Rattle.refusals.specs.Rule.{Rule, Rule.◌when◌, judged}
use Rattle.refusals.specs.declared.Call.TheVariants.{Writing}
use Rattle.lists.specs.Wire.{version_bytes}
use Rattle.information.specs.Information.{information_bytes}
use Rattle.attempt.specs.AsSent.{sent_count, list_as_sent, given_keep_rule}
use Rattle.attempt.specs.Attempt.{own_as_answered}
use Rattle.attempt.specs.declared.Attempt.{Attempt}

-- "26 and 37 count all given": Chosen, each own entry and each number that is given, 4 bytes each
abbrev pub sent_length : List ℕ → List (List ℕ) → ℕ
sent_length own given = version_bytes + version_bytes * sent_count own given

-- "47 from that call, whose only other number is 37"
abbrev pub sent_rules : List ℕ → List (List ℕ) → ℕ → List Rule
sent_rules own given room =
    (37 when ltb room (sent_length own given)) ∷ (47 when not (given_keep_rule (sent_count own given) given)) ∷ []

-- The bytes to write into a buffer that has room for so many, of a Chosen Version and an own list
unfoldable pub information_as_sent : ℕ → List ℕ → List (List ℕ) → ℕ → Reply (List ℕ)
information_as_sent chosen own given room =
    judged Writing (sent_rules own given room) (answered (information_bytes chosen (list_as_sent own given)))

-- Those of the record: "with the attempted version as Chosen", and the own list as sent
abbrev pub client_information_of : Attempt → List (List ℕ) → ℕ → Reply (List ℕ)
client_information_of a given room = information_as_sent a.attempted (own_as_answered a) given room
