-- The table's close codes by ranges of numbers: one test that antt computes over all 256 values of a byte.
use Prim.Native.Nat.{ℕ, zero, suc, ◌<◌}
use mathlib.Core.Bool.{Bool, true, false, cond, ◌&&◌}
use mathlib.Core.List.{List, [], ◌∷◌}
use mathlib.Core.Path.{◌≡◌, refl, ap}
use lib.Dec.{leb, ltb, eqb}
use borrow.Author.Tests.{eqb-true, leb-true, ne_eqb}
use native.Mathlib.Nat.{not-suc-le-zero}
use native.Mathlib.Decide.{dec_lt}
use native.Mathlib.Omega.{arith}
use Rattle.refusals.proofs.Rules.{both_true}
use Rattle.refusals.specs.Table.{Row, Row.row, table}
use Rattle.refusals.specs.Close.{code_in}
use Rattle.std.specs.Prelude.{Option, Some, None}

same : Option ℕ → Option ℕ → Bool
same None None = true
same None (Some b) = false
same (Some a) None = false
same (Some a) (Some b) = eqb a b

same-eq : (a b : Option ℕ) → same a b ≡ true → a ≡ b
unfolding same
same-eq None None e = refl
same-eq None (Some b) e = cc
same-eq (Some a) None e = cc
same-eq (Some a) (Some b) e = ap Some (eqb-true a b e)

-- a test passes at every number below k
every_below : (ℕ → Bool) → ℕ → Bool
every_below p zero = true
every_below p (suc k) = p k && every_below p k

at_each : (p : ℕ → Bool) (k : ℕ) → every_below p k ≡ true → (n : ℕ) → n < k → p n ≡ true
unfolding every_below
at_each p zero e n h = absurd (not-suc-le-zero h)
at_each p (suc k) e n h = go (both_true (p k) (every_below p k) e) (dec_lt n k) (at_each p k)
  where
    go : (p k ≡ true) × (every_below p k ≡ true) → Dec (n < k) → (every_below p k ≡ true → (m : ℕ) → m < k → p m ≡ true) → p n ≡ true
    go b (yes l) ih = ih b.1 n l
    go b (no l) ih = let z : n ≡ k = omega arith in rw z b.0

-- the codes as the code tells them, by ranges
abbrev pub ranged : ℕ → Option ℕ
ranged n =
    cond (ltb n 31) None
    (cond (leb n 36) (Some 0x08)
    (cond (eqb n 51) (Some 0x11)
    (cond (ltb n 71) None
    (cond (leb n 75) (Some 0x11)
    (cond (ltb n 80) None
    (cond (leb n 82) (Some 0x08)
    (cond (eqb n 85) (Some 0x08) None)))))))

agree : ℕ → Bool
agree n = same (code_in table n) (ranged n)

pub by_ranges : (n : ℕ) → n < 256 → code_in table n ≡ ranged n
unfolding every_below same agree code_in table
by_ranges n h = same-eq (code_in table n) (ranged n) (at_each agree 256 refl n h)

-- No number over a byte is in the table, so none has a code
bytes_only : List Row → Bool
bytes_only [] = true
bytes_only (row m c ∷ rows) = leb m 255 && bytes_only rows

none_over : (rows : List Row) (n : ℕ) → bytes_only rows ≡ true → 255 < n → code_in rows n ≡ None
unfolding bytes_only code_in
none_over [] n h l = refl
none_over (row m c ∷ rows) n h l =
    let small = both_true (leb m 255) _ h in
    let byte = leb-true m 255 small.0 in
    rw (ne_eqb n m (λ e. omega (arith, byte, l, e))) (none_over rows n small.1 l)

pub over-a-byte : (n : ℕ) → 255 < n → code_in table n ≡ None
unfolding bytes_only table
over-a-byte n l = none_over table n refl l
