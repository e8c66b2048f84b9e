-- The starts of `records` keep every rule of document 01: by computing. So none is refused.
use Prim.Native.Nat.{ℕ}
use mathlib.Core.Bool.{Bool, true}
use mathlib.Core.List.{List, [], ◌∷◌}
use mathlib.Core.Path.{◌≡◌, refl}
use Rattle.versions.specs.Pairs.{pair_keeps_rule, each_pair_keeps_rule, pairs_keep_rule}
use Rattle.versions.specs.Table.{elem, entries_keep_rule, table_keeps_rule}
use Rattle.versions.specs.Version.{reserved, usable}
use Rattle.std.proofs.Common.{Result, Ok, Err, IsOk}
use Rattle.refusals.specs.declared.Refusal.{Refusal}
use Rattle.attempt.proofs.Keeps.{blank-not-reachable}
use Rattle.attempt.specs.declared.Attempt.{Attempt}
use Rattle.attempt.specs.Events.{Reachable}
use Rattle.attempt.specs.Start.{input_of, is_accepted, shown_start}

pub plain : is_accepted (input_of (14 ∷ 12 ∷ 10 ∷ []) [] [] 12 (0xaa ∷ 0xbb ∷ []) (0xcc ∷ [])) ≡ true
unfolding each_pair_keeps_rule pairs_keep_rule elem entries_keep_rule table_keeps_rule reserved usable
plain = refl

-- table 3, 4, 1, 2, pairs 1 to 2 and 3 to 4, Original 1, with barred pairs
abbrev barred-with : List (List ℕ) → Bool
barred-with bs =
    is_accepted (input_of (3 ∷ 4 ∷ 1 ∷ 2 ∷ []) ((1 ∷ 2 ∷ []) ∷ (3 ∷ 4 ∷ []) ∷ []) bs 1 (0xaa ∷ 0xbb ∷ []) (0xcc ∷ []))

pub paired : barred-with [] ≡ true
unfolding pair_keeps_rule each_pair_keeps_rule pairs_keep_rule elem entries_keep_rule table_keeps_rule reserved usable
paired = refl

pub barring : barred-with ((3 ∷ 4 ∷ []) ∷ []) ≡ true
unfolding pair_keeps_rule each_pair_keeps_rule pairs_keep_rule elem entries_keep_rule table_keeps_rule reserved usable
barring = refl

pub barring_others : barred-with ((4 ∷ 3 ∷ []) ∷ (1 ∷ 4 ∷ []) ∷ []) ≡ true
unfolding pair_keeps_rule each_pair_keeps_rule pairs_keep_rule elem entries_keep_rule table_keeps_rule reserved usable
barring_others = refl

pub down_to_one : is_accepted (input_of (14 ∷ 1 ∷ []) [] [] 14 (0xaa ∷ 0xbb ∷ []) (0xcc ∷ [])) ≡ true
unfolding each_pair_keeps_rule pairs_keep_rule elem entries_keep_rule table_keeps_rule reserved usable
down_to_one = refl

-- The record that stands for a refused start is no attempt's
pub is_opened : (r : Result Attempt Refusal) → Reachable (shown_start r).attempt → IsOk r
is_opened (Ok a) h = refl
is_opened (Err r) h = absurd (blank-not-reachable h)
