-- The parameters of a sequence as an iterator gives them: those that can be read, up to the first that cannot.
use Rattle.std.specs.Prelude.{ℕ, zero, suc, List, [], ◌∷◌, length}
use Rattle.refusals.specs.Reply.{Reply, Reply.refused, Reply.answered}
use Rattle.parameters.specs.Sequence.{Field, field_at}

abbrev pub first_of : (ℕ → List Field) → Reply Field → List Field
first_of rest (refused n c) = []
first_of rest (answered f) = f ∷ rest f.value.end

-- Those from a place on, in so many turns at the most; one turn for each byte is enough (`enough_items`, proofs/Items.antt)
unfoldable pub items_from : ℕ → List ℕ → ℕ → List Field
items_from zero s at = []
items_from (suc turns) s at = first_of (items_from turns s) (field_at s at)

-- Those from a place on
abbrev pub items_left : List ℕ → ℕ → List Field
items_left s at = items_from (length s) s at
