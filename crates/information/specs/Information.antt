-- RFC 9368 section 3, document 01 "Version Information".
use Rattle.std.specs.Prelude.{ℕ, ◌+◌, ◌*◌, ◌-◌, ◌%◌, Bool, true, false, not, ◌&&◌, List, [], ◌∷◌, ◌++◌, eqb, ltb, length, take, drop, Result, Ok, Err}
use Rattle.refusals.specs.Reply.{Reply, Reply.answered, refuse}
use Rattle.refusals.specs.Rule.{Rule, Rule.◌when◌, judged}
use Rattle.refusals.specs.declared.Call.TheVariants.{Reading, Writing}
use Rattle.refusals.specs.declared.Refusal.{Refusal}
use Rattle.versions.specs.Table.{elem}
use Rattle.lists.specs.Wire.{number_at, entries, bytes_of, list_bytes, version_bytes}
use Rattle.lists.specs.declared.Span.{Span}
use Rattle.information.specs.Limits.{max_available, max_information}
use Rattle.information.specs.declared.Information.{Information}
use Rattle.information.specs.declared.Sender.{Sender}
use Rattle.information.specs.declared.Sender.TheVariants.{Client, Server}

-- "Chosen Version, 4 bytes"
abbrev pub chosen_of : List ℕ → ℕ
chosen_of bytes = number_at bytes 0

-- "then 0 to 255 Available Versions of 4 bytes"
abbrev pub available_of : List ℕ → List ℕ
available_of bytes = entries (drop version_bytes bytes)

-- 31 to 35, which both senders' information can break
abbrev pub form_rules : List ℕ → List Rule
form_rules bytes =
    (31 when ltb (length bytes) version_bytes) ∷
    (32 when not (eqb (length bytes % version_bytes) 0)) ∷
    (33 when ltb max_information (length bytes)) ∷
    (34 when eqb (chosen_of bytes) 0) ∷
    (35 when elem 0 (available_of bytes)) ∷
    []

abbrev pub is_client : Sender → Bool
is_client Client = true
is_client Server = false

-- "From a client, Chosen must be among Available. From a server it need not be"
abbrev pub sender_rules : Sender → ℕ → List ℕ → List Rule
sender_rules sender chosen available = (36 when is_client sender && not (elem chosen available)) ∷ []

-- 34 to 36, which the reader and the writer judge alike
abbrev pub version_rules : Sender → ℕ → List ℕ → List Rule
version_rules sender chosen available =
    (34 when eqb chosen 0) ∷ (35 when elem 0 available) ∷ sender_rules sender chosen available

-- What the reader answers: Chosen, and where Available lies
pub record Found : Type 0 where
  pub chosen : ℕ
  pub available : Span

abbrev pub found_in : List ℕ → Found
found_in bytes =
    record { chosen = chosen_of bytes; available = record { start = version_bytes; end = length bytes } }

-- The versions that lie in a part of the information
abbrev pub versions_in : List ℕ → Span → List ℕ
versions_in bytes span = entries (take (span.end - span.start) (drop span.start bytes))

unfoldable pub read_information : Sender → List ℕ → Reply Found
read_information sender bytes =
    judged Reading (form_rules bytes ++ sender_rules sender (chosen_of bytes) (available_of bytes))
    (answered (found_in bytes))

-- The result of the reader, its value as a `Found`
abbrev pub information_reply : Result Information Refusal → Reply Found
information_reply (Ok i) = answered (record { chosen = i.chosen; available = i.available })
information_reply (Err r) = refuse Reading r.0

-- "Chosen Version, 4 bytes, then 0 to 255 Available Versions of 4 bytes"
abbrev pub information_bytes : ℕ → List ℕ → List ℕ
information_bytes chosen available = bytes_of chosen ++ list_bytes available

abbrev pub information_length : List ℕ → ℕ
information_length available = version_bytes + version_bytes * length available

-- The writer's order: 33, 34, 35, 36 (`sender_rules`, as for the reader), 37
abbrev pub write_rules : Sender → ℕ → List ℕ → ℕ → List Rule
write_rules sender chosen available room =
    (33 when ltb max_available (length available)) ∷
    (34 when eqb chosen 0) ∷
    (35 when elem 0 available) ∷
    (sender_rules sender chosen available ++ ((37 when ltb room (information_length available)) ∷ []))

-- The bytes to write into a buffer that has room for so many bytes
unfoldable pub information_to_write : Sender → ℕ → List ℕ → ℕ → Reply (List ℕ)
information_to_write sender chosen available room =
    judged Writing (write_rules sender chosen available room) (answered (information_bytes chosen available))
