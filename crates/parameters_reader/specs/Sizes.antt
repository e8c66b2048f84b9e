-- Words for the contracts of src/identifiers.rt, which are private: the small identifiers and the large ones.
use Rattle.std.specs.Prelude.{ℕ, Bool, true, false, cond, List, [], ◌∷◌, ltb, get_or, set}
use Rattle.parameters.specs.Items.{items_left}
use Rattle.parameters.specs.Sequence.{ids_of}
use Rattle.parameters.specs.declared.Parameters.{Parameters}

-- The identifiers of the parameters that are left
abbrev pub ids_left : Parameters → List ℕ
ids_left p = ids_of (items_left p.sequence.now p.at)

-- Identifiers from here on are large: they do not fit in two bytes
abbrev pub large : ℕ
large = 16384

-- The most large identifiers of a sequence: each takes four bytes, and its length another one
abbrev pub max_large : ℕ
max_large = 3276

-- The numbers below a bound
unfoldable pub below : ℕ → List ℕ → List ℕ
below n [] = []
below n (x ∷ xs) = cond (ltb x n) (x ∷ below n xs) (below n xs)

-- The others
unfoldable pub from_on : ℕ → List ℕ → List ℕ
from_on n [] = []
from_on n (x ∷ xs) = cond (ltb x n) (from_on n xs) (x ∷ from_on n xs)

-- A small number is marked; a large one never is
abbrev pub is_seen : List Bool → ℕ → Bool
is_seen seen id = cond (ltb id large) (get_or seen id false) false

abbrev pub seeing : List Bool → ℕ → List Bool
seeing seen id = cond (ltb id large) (set seen id true) seen
