-- The words of the laws of choice. Document 01: "In demand 3's laws each list, joined or not, keeps within 40, and
-- a 42 counts as an empty choice".
use Rattle.std.specs.Prelude.{ℕ, true, List, [], ◌∷◌, ◌≡◌}
use Rattle.std.specs.Prelude.{Option, None, Some}
use Rattle.refusals.specs.Reply.{Reply, Reply.refused, Reply.answered}
use Rattle.versions.specs.Table.{elem}

-- A choice as a list to choose from: "a 42 counts as an empty choice". So does a 41, which the table alone
-- gives, whatever the list
abbrev pub choice_list : Reply ℕ → List ℕ
choice_list (refused n c) = []
choice_list (answered v) = v ∷ []

-- The version that a choice answered, or none where it refused
abbrev pub version_chosen : Reply ℕ → Option ℕ
version_chosen (refused n c) = None
version_chosen (answered v) = Some v

-- Two lists hold the same entries of the table, whatever their order and whatever else they hold
abbrev pub SameHeld : List ℕ → List ℕ → List ℕ → Type 0
SameHeld table a b = (v : ℕ) → elem v table ≡ true → elem v a ≡ elem v b
