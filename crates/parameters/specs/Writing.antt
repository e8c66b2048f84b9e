-- The writer of a sequence: document 02, C-11: "The writer takes the old sequence and our value's bytes; the other values
-- and the order stay, and ours replaces the old one or goes last".
use Rattle.std.specs.Prelude.{ℕ, Bool, false, cond, ◌||◌, List, [], ◌∷◌, ◌++◌, eqb, ltb, length}
use Rattle.refusals.specs.Reply.{Reply, Reply.answered}
use Rattle.refusals.specs.Rule.{Rule, Rule.◌when◌, judged}
use Rattle.refusals.specs.declared.Call.TheVariants.{Writing}
use Rattle.integers.specs.Integers.{shortest_bytes}
use Rattle.parameters.specs.Limits.{max_sequence, max_parameters, version_information}
use Rattle.parameters.specs.Sequence.{Field, fields_of, bytes_in}
use Rattle.parameters.specs.Reading.{fields_in, sequence_rules}

-- A parameter by itself: what it says, wherever and in whatever widths it lies
pub record Content : Type 0 where
  pub id : ℕ
  pub value : List ℕ

abbrev pub content_of : List ℕ → Field → Content
content_of s f = record { id = f.id; value = bytes_in s f.value }

unfoldable pub contents_in : List ℕ → List Field → List Content
contents_in s [] = []
contents_in s (f ∷ fs) = content_of s f ∷ contents_in s fs

-- What a sequence says; nothing where a field runs past the end
abbrev pub contents_of : List ℕ → List Content
contents_of s = contents_in s (fields_in (fields_of s))

-- "the writer uses the shortest form that holds it", for every identifier and every length; the value is copied
abbrev pub content_bytes : Content → List ℕ
content_bytes p = shortest_bytes p.id ++ (shortest_bytes (length p.value) ++ p.value)

unfoldable pub sequence_bytes : List Content → List ℕ
sequence_bytes [] = []
sequence_bytes (p ∷ ps) = content_bytes p ++ sequence_bytes ps

abbrev pub is_ours : Content → Bool
is_ours p = eqb p.id version_information

abbrev pub ours : List ℕ → Content
ours value = record { id = version_information; value = value }

unfoldable pub holds_ours : List Content → Bool
holds_ours [] = false
holds_ours (p ∷ ps) = is_ours p || holds_ours ps

-- "ours replaces the old one"
unfoldable pub renewed : List ℕ → List Content → List Content
renewed value [] = []
renewed value (p ∷ ps) = cond (is_ours p) (ours value) p ∷ renewed value ps

-- "or goes last"
unfoldable pub carrying : List ℕ → List Content → List Content
carrying value ps = cond (holds_ours ps) (renewed value ps) (ps ++ (ours value ∷ []))

-- "lowest first, in the writer for the old sequence, then for the new": 80, 84 and 85 of the new one
abbrev pub new_rules : List Content → ℕ → List Rule
new_rules new room =
    (80 when ltb max_sequence (length (sequence_bytes new))) ∷
    (84 when ltb room (length (sequence_bytes new))) ∷
    (85 when ltb max_parameters (length new)) ∷
    []

-- The sequence to write into a buffer that has room for so many bytes
unfoldable pub parameters_to_write : List ℕ → List ℕ → ℕ → Reply (List ℕ)
parameters_to_write old value room =
    let new : List Content = carrying value (contents_of old) in
    judged Writing (sequence_rules old ++ new_rules new room) (answered (sequence_bytes new))
