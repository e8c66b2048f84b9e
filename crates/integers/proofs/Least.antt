-- The writer's form: it holds the integer, and no form that holds it has a shorter width.
use Prim.Native.Nat.{ℕ, zero, suc, ◌<◌, ◌≤◌, zero-le}
use mathlib.Core.Bool.{Bool, true, false, cond}
use mathlib.Core.List.{List, ◌++◌}
use mathlib.Core.Path.{◌≡◌, refl}
use native.Mathlib.Nat.{le_refl}
use native.Mathlib.Omega.{arith}
use borrow.Author.Tests.{ltb-true, ltb-false}
use lib.Dec.{ltb, lit<, lit≤}
use lib.ListN.{length}
use lib.Pow.{pow_mono}
use Rattle.refusals.specs.Reply.{Reply.answered}
use Rattle.integers.specs.Integers.{read_integer, width_of, held_below, shortest, shortest_width, shortest_bytes}
use Rattle.integers.specs.Limits.{max_integer}
use Rattle.integers.proofs.RoundTrip.{length-integer, one-le-width, read_back, width-top}

-- What holds in each of the definition's four cases holds of the form
by_form : (P : ℕ → Type 0) (v : ℕ) → (v < held_below 0 → P 0) → (held_below 0 ≤ v → v < held_below 1 → P 1)
    → (held_below 1 ≤ v → v < held_below 2 → P 2) → (held_below 2 ≤ v → P 3) → P (shortest v)
unfolding shortest
by_form P v p0 p1 p2 p3 =
    go (ltb v (held_below 0)) (ltb v (held_below 1)) (ltb v (held_below 2)) (ltb-true v _) (ltb-false v _) (ltb-true v _)
    (ltb-false v _) (ltb-true v _) (ltb-false v _)
  where
    go : (a b c : Bool) → (a ≡ true → v < held_below 0) → (a ≡ false → held_below 0 ≤ v)
        → (b ≡ true → v < held_below 1) → (b ≡ false → held_below 1 ≤ v)
        → (c ≡ true → v < held_below 2) → (c ≡ false → held_below 2 ≤ v) → P (cond a 0 (cond b 1 (cond c 2 3)))
    go true b c f f' g g' h h' = p0 (f refl)
    go false true c f f' g g' h h' = p1 (f' refl) (g refl)
    go false false true f f' g g' h h' = p2 (g' refl) (h refl)
    go false false false f f' g g' h h' = p3 (h' refl)

pub shortest_lt : (v : ℕ) → shortest v < 4
shortest_lt v = by_form (λ x. x < 4) v (λ _. lit< tt) (λ _ _. lit< tt) (λ _ _. lit< tt) (λ _. lit< tt)

last-holds : (v : ℕ) → v ≤ max_integer → v < held_below 3
unfolding held_below width_of
last-holds v top = omega arith

-- The writer's form holds whatever can be written
pub shortest-holds : (v : ℕ) → v ≤ max_integer → v < held_below (shortest v)
shortest-holds v top = by_form (λ x. v < held_below x) v (λ h. h) (λ _ h. h) (λ _ h. h) (λ _. last-holds v top)

-- It is the first of those that do
shortest-first : (form v : ℕ) → v < held_below form → shortest v ≤ form
unfolding held_below width_of
shortest-first zero v h = by_form (λ x. x ≤ 0) v (λ _. zero-le) (λ l _. omega arith) (λ l _. omega arith) (λ l. omega arith)
shortest-first (suc zero) v h =
    by_form (λ x. x ≤ 1) v (λ _. zero-le) (λ _ _. le_refl 1) (λ l _. omega arith) (λ l. omega arith)
shortest-first (suc (suc zero)) v h =
    by_form (λ x. x ≤ 2) v (λ _. zero-le) (λ _ _. lit≤ tt) (λ _ _. le_refl 2) (λ l. omega arith)
shortest-first (suc (suc (suc form))) v h = let low = shortest_lt v in omega (arith, low)

-- The writer's width is the least of those that hold the integer
pub least-width : (form v : ℕ) → v < held_below form → shortest_width v ≤ width_of form
unfolding shortest_width width_of
least-width form v h = pow_mono (shortest-first form v h)

-- The bytes that the writer puts are as many as its width
pub length-shortest : (v : ℕ) → length (shortest_bytes v) ≡ shortest_width v
unfolding shortest_bytes shortest_width
length-shortest v = length-integer (shortest v) v

pub shortest-width-one : (v : ℕ) → 1 ≤ shortest_width v
unfolding shortest_width
shortest-width-one v = one-le-width (shortest v)

pub shortest-width-top : (v : ℕ) → shortest_width v ≤ 8
unfolding shortest_width
shortest-width-top v = width-top (shortest v) (shortest_lt v)

-- What is written in the shortest width is read back, whatever follows
pub shortest-back : (v : ℕ) (rest : List ℕ) → v ≤ max_integer
    → read_integer (shortest_bytes v ++ rest) ≡ answered (record { value = v; width = shortest_width v })
unfolding shortest_bytes shortest_width
shortest-back v rest h = read_back (shortest v) v rest (shortest-holds v h)

-- What two bytes do not hold takes four or more
pub wide_from : (v : ℕ) → held_below 1 ≤ v → 4 ≤ shortest_width v
unfolding shortest_width held_below width_of
wide_from v h = by_form (λ x. 4 ≤ width_of x) v (λ l. omega arith) (λ _ l. omega arith) (λ _ _. lit≤ tt) (λ _. lit≤ tt)

-- What the writer's steps follow from
pub ruleset writing = (shortest_lt, shortest-holds, length-shortest)
