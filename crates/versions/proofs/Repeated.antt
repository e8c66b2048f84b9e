-- Document 01: "a repeated pair is harmless". A pair that is in the table of pairs already may be put in again, at any
-- place: the same versions are paired, and the table keeps its rule as before, the limit of pairs aside.
use Prim.Native.Nat.{ℕ, ◌≤◌}
use mathlib.Core.Bool.{Bool, true, false, not, ◌&&◌, ◌||◌, or_assoc, and-false, false≢true}
use mathlib.Core.List.{List, [], ◌∷◌, ◌++◌}
use mathlib.Core.Path.{◌≡◌, refl, sym, ◌∙◌}
use native.Mathlib.Omega.{arith}
use lib.Dec.{eqb}
use lib.ListN.{length, length-append}
use borrow.Author.Tests.{eqb-true, le-leb}
use Rattle.refusals.proofs.Rules.{both_true}
use Rattle.versions.specs.Limits.{max_pairs}
use Rattle.versions.specs.Pairs.{from_of, to_of, pair_keeps_rule, each_pair_keeps_rule, pairs_keep_rule, paired}
use Rattle.versions.specs.Version.{usable}

-- Tests may change places
pub or_swap : (p q r : Bool) → (p || (q || r)) ≡ (q || (p || r))
or_swap true true r = refl
or_swap true false r = refl
or_swap false q r = refl

and-swap : (p q r : Bool) → (p && (q && r)) ≡ (q && (p && r))
and-swap true q r = refl
and-swap false true r = refl
and-swap false false r = refl

-- What one pair says of two versions
abbrev pub pairs? : List ℕ → ℕ → ℕ → Bool
pairs? pair a b = eqb (from_of pair) a && eqb (to_of pair) b

pub its-members : (pair : List ℕ) (a b : ℕ) → pairs? pair a b ≡ true → (from_of pair ≡ a) × (to_of pair ≡ b)
its-members pair a b h =
    let both = both_true (eqb (from_of pair) a) (eqb (to_of pair) b) h in
    (eqb-true _ _ both.0, eqb-true _ _ both.1)

-- A pair put in at any place counts as one put in front
pub paired-inserted : (ps qs : List (List ℕ)) (pair : List ℕ) (a b : ℕ) →
    paired (ps ++ pair ∷ qs) a b ≡ (pairs? pair a b || paired (ps ++ qs) a b)
unfolding paired
paired-inserted [] qs pair a b = refl
paired-inserted (p ∷ ps) qs pair a b =
    rw (paired-inserted ps qs pair a b) (or_swap (pairs? p a b) (pairs? pair a b) (paired (ps ++ qs) a b))

-- The pairs of one table behind those of another
pub paired-append : (ps qs : List (List ℕ)) (a b : ℕ) → paired (ps ++ qs) a b ≡ (paired ps a b || paired qs a b)
unfolding paired
paired-append [] qs a b = refl
paired-append (p ∷ ps) qs a b = rw (paired-append ps qs a b, or_assoc (pairs? p a b) (paired ps a b) (paired qs a b))

rule-inserted : (ps qs : List (List ℕ)) (pair : List ℕ) →
    each_pair_keeps_rule (ps ++ pair ∷ qs) ≡ (pair_keeps_rule pair && each_pair_keeps_rule (ps ++ qs))
unfolding each_pair_keeps_rule
rule-inserted [] qs pair = refl
rule-inserted (p ∷ ps) qs pair =
    rw (rule-inserted ps qs pair) (and-swap (pair_keeps_rule p) (pair_keeps_rule pair) (each_pair_keeps_rule (ps ++ qs)))

-- Versions that are paired by pairs which keep the rule would keep it as a pair
paired-keeps : (ps : List (List ℕ)) (a b : ℕ) → paired ps a b ≡ true → each_pair_keeps_rule ps ≡ true →
    (usable a && (usable b && not (eqb a b))) ≡ true
unfolding paired each_pair_keeps_rule pair_keeps_rule
paired-keeps [] a b h k = absurd (false≢true h)
paired-keeps (p ∷ ps) a b h k = go (pairs? p a b) refl h (both_true (pair_keeps_rule p) (each_pair_keeps_rule ps) k) (paired-keeps ps a b)
  where
    go : (here : Bool) → pairs? p a b ≡ here → (here || paired ps a b) ≡ true →
        (pair_keeps_rule p ≡ true) × (each_pair_keeps_rule ps ≡ true) →
        (paired ps a b ≡ true → each_pair_keeps_rule ps ≡ true → (usable a && (usable b && not (eqb a b))) ≡ true) →
        (usable a && (usable b && not (eqb a b))) ≡ true
    go true e h k ih =
        let same = its-members p a b e in
        rw (← same.0, ← same.1) k.0
    go false e h k ih = ih h k.1

module _ (ps qs : List (List ℕ)) (pair : List ℕ)
    -- a pair with these members is there already
    (there : paired (ps ++ qs) (from_of pair) (to_of pair) ≡ true) where
  -- The same versions are paired
  pub pair-repeated : (a b : ℕ) → paired (ps ++ pair ∷ qs) a b ≡ paired (ps ++ qs) a b
  pair-repeated a b = paired-inserted ps qs pair a b ∙ go (pairs? pair a b) refl
    where
      go : (here : Bool) → pairs? pair a b ≡ here → (here || paired (ps ++ qs) a b) ≡ paired (ps ++ qs) a b
      go true e =
          let same = its-members pair a b e in
          rw (← same.0, ← same.1) (sym there)
      go false e = refl

  -- The table of pairs keeps its rule as before
  pub rule-repeated : length (ps ++ pair ∷ qs) ≤ max_pairs → pairs_keep_rule (ps ++ pair ∷ qs) ≡ pairs_keep_rule (ps ++ qs)
  unfolding pairs_keep_rule pair_keeps_rule
  rule-repeated fits =
      let shorter : length (ps ++ qs) ≤ max_pairs = omega (arith, fits, length-append ps (pair ∷ qs), length-append ps qs) in
      rw (le-leb _ _ fits, le-leb _ _ shorter, rule-inserted ps qs pair) (go (each_pair_keeps_rule (ps ++ qs)) refl)
    where
      go : (keep : Bool) → each_pair_keeps_rule (ps ++ qs) ≡ keep → (pair_keeps_rule pair && keep) ≡ keep
      go true e = rw (paired-keeps (ps ++ qs) (from_of pair) (to_of pair) there e)
      go false e = and-false (pair_keeps_rule pair)
