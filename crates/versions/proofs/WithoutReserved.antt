-- Lists of versions without their reserved numbers: of a version that is not reserved they say the same. A table has none.
use Prim.Native.Nat.{ℕ}
use mathlib.Core.Bool.{Bool, true, false, not, ◌&&◌, ◌||◌, or-true, true≢false, false≢true}
use mathlib.Core.List.{List, [], ◌∷◌, ◌++◌}
use mathlib.Core.Path.{◌≡◌, refl, sym, ap, ◌∙◌}
use lib.Dec.{eqb}
use borrow.Author.Tests.{eqb-true, eqb-false, not-true, eq-eqb}
use Rattle.refusals.proofs.Rules.{both_true}
use Rattle.versions.specs.Reserved.{each_reserved, not_reserved, without_reserved}
use Rattle.versions.specs.Table.{elem, entries_keep_rule, table_keeps_rule}
use Rattle.versions.specs.Version.{reserved, usable}
use Rattle.versions.specs.Words.{keep_if, entries_where}
use Rattle.versions.proofs.Lists.{table-entries}
use Rattle.versions.proofs.Members.{elem-where}

-- 0 is none
pub zero-unreserved : reserved 0 ≡ false
unfolding reserved
zero-unreserved = refl

-- Whether a version that is not reserved occurs
pub elem-without : (v : ℕ) (vs : List ℕ) → reserved v ≡ false → elem v (without_reserved vs) ≡ elem v vs
elem-without v vs h = elem-where not_reserved vs v ∙ ap (λ (b : Bool). not b && elem v vs) h

-- Two lists that differ by reserved numbers alone hold the same versions that are not
pub same-without : (a b : List ℕ) → without_reserved a ≡ without_reserved b → (v : ℕ) → reserved v ≡ false → elem v a ≡ elem v b
same-without a b same v h = sym (elem-without v a h) ∙ ap (elem v) same ∙ elem-without v b h

pub without-append : (a b : List ℕ) → without_reserved (a ++ b) ≡ without_reserved a ++ without_reserved b
unfolding entries_where
without-append [] b = refl
without-append (x ∷ a) b = go (not (reserved x)) (without-append a b)
  where
    go : (c : Bool) → without_reserved (a ++ b) ≡ without_reserved a ++ without_reserved b →
        keep_if c x (without_reserved (a ++ b)) ≡ keep_if c x (without_reserved a) ++ without_reserved b
    go true ih = ap (λ (l : List ℕ). x ∷ l) ih
    go false ih = ih

-- Nothing is left of reserved numbers
pub without-each : (vs : List ℕ) → each_reserved vs ≡ true → without_reserved vs ≡ []
unfolding entries_where each_reserved
without-each [] h = refl
without-each (x ∷ vs) h =
    let p = both_true (reserved x && not (elem x vs)) (each_reserved vs) h in
    rw (both_true (reserved x) _ p.0).0 (without-each vs p.1)

-- A list without any stays as it is
pub without-none : (vs : List ℕ) → ((v : ℕ) → elem v vs ≡ true → reserved v ≡ false) → without_reserved vs ≡ vs
unfolding entries_where elem
without-none [] h = refl
without-none (x ∷ vs) h =
    rw (h x (ap (λ (c : Bool). c || elem x vs) (eq-eqb x x refl)))
    (ap (λ (l : List ℕ). x ∷ l) (without-none vs (λ v e. h v (ap (λ (c : Bool). eqb x v || c) e ∙ or-true (eqb x v)))))

-- An entry of a table that keeps its rule is usable
entry-usable : (t : List ℕ) (v : ℕ) → entries_keep_rule t ≡ true → elem v t ≡ true → usable v ≡ true
unfolding entries_keep_rule elem
entry-usable [] v h e = absurd (false≢true e)
entry-usable (x ∷ t) v h e =
    let p = both_true (usable x && not (elem x t)) (entries_keep_rule t) h in
    go (eqb x v) refl (both_true (usable x) _ p.0).0 (entry-usable t v p.1) e
  where
    go : (c : Bool) → eqb x v ≡ c → usable x ≡ true → (elem v t ≡ true → usable v ≡ true) → (c || elem v t) ≡ true → usable v ≡ true
    go true d u ih e = sym (ap usable (eqb-true x v d)) ∙ u
    go false d u ih e = ih e

-- so it is neither 0 nor reserved
usable-known : (v : ℕ) → usable v ≡ true → (v ≡ 0 → ⊥) × (reserved v ≡ false)
unfolding usable
usable-known v h =
    let u = both_true (not (eqb v 0)) (not (reserved v)) h in
    (eqb-false v 0 (not-true (eqb v 0) u.0), not-true (reserved v) u.1)

pub table-not-zero : (t : List ℕ) (v : ℕ) → table_keeps_rule t ≡ true → elem v t ≡ true → v ≡ 0 → ⊥
table-not-zero t v h e = (usable-known v (entry-usable t v (table-entries t h) e)).0

pub table-not-reserved : (t : List ℕ) (v : ℕ) → table_keeps_rule t ≡ true → elem v t ≡ true → reserved v ≡ false
table-not-reserved t v h e = (usable-known v (entry-usable t v (table-entries t h) e)).1

-- so a reserved number is in no table
pub reserved-not-in-table : (t : List ℕ) (v : ℕ) → table_keeps_rule t ≡ true → reserved v ≡ true → elem v t ≡ false
reserved-not-in-table t v h r = go (elem v t) refl
  where
    go : (b : Bool) → elem v t ≡ b → b ≡ false
    go true e = absurd (true≢false (sym r ∙ table-not-reserved t v h e))
    go false e = refl
