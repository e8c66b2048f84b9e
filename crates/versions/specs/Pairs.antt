-- Tables of compatible pairs. A pair is a list of two versions, from and to.
use Rattle.std.specs.Prelude.{ℕ, Bool, true, false, not, ◌&&◌, ◌||◌, List, [], ◌∷◌, eqb, leb, length, get_or}
use Rattle.versions.specs.Limits.{max_pairs}
use Rattle.versions.specs.Version.{usable}

abbrev pub from_of : List ℕ → ℕ
from_of pair = get_or pair 0 0

abbrev pub to_of : List ℕ → ℕ
to_of pair = get_or pair 1 0

-- "no member 0 or reserved, no pair of equal members"
unfoldable pub pair_keeps_rule : List ℕ → Bool
pair_keeps_rule pair = usable (from_of pair) && (usable (to_of pair) && not (eqb (from_of pair) (to_of pair)))

unfoldable pub each_pair_keeps_rule : List (List ℕ) → Bool
each_pair_keeps_rule [] = true
each_pair_keeps_rule (pair ∷ pairs) = pair_keeps_rule pair && each_pair_keeps_rule pairs

-- Document 01: "A table of compatible pairs (from, to) has 0 to 64 pairs, no member 0 or reserved, no pair of equal
-- members; a repeated pair is harmless". Document 02, C-14: "pairs from 64 to 1,024"
unfoldable pub pairs_keep_rule : List (List ℕ) → Bool
pairs_keep_rule pairs = leb (length pairs) max_pairs && each_pair_keeps_rule pairs

-- The version b is paired from a. "Pairs are neither turned round nor chained"
unfoldable pub paired : List (List ℕ) → ℕ → ℕ → Bool
paired [] a b = false
paired (pair ∷ pairs) a b = (eqb (from_of pair) a && eqb (to_of pair) b) || paired pairs a b
