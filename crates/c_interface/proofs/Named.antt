-- Kinds by number: which kind 0 and 1 name, and that a greater number names none.
use Prim.Native.Nat.{ℕ, ◌≤◌, ◌<◌}
use Rattle.std.specs.Prelude.{None, Some}
use mathlib.Core.Path.{◌≡◌}
use native.Mathlib.Omega.{arith}
use borrow.Author.Tests.{eq-eqb, ne_eqb}
use Rattle.c_interface.specs.Numbers.{named}

module _ {K : Type 0} (first second : K) (n : ℕ) where
  pub named-first : n ≡ 0 → Some first ≡ named first second n
  unfolding named
  named-first e = rw (eq-eqb _ _ e)

  pub named-second : n ≤ 1 → (n ≡ 0 → ⊥) → Some second ≡ named first second n
  unfolding named
  named-second h n0 =
      let e : n ≡ 1 = omega (arith, h, n0) in
      rw (ne_eqb _ _ n0, eq-eqb _ _ e)

  pub named_none : 1 < n → named first second n ≡ None
  unfolding named
  named_none h =
      let n0 : n ≡ 0 → ⊥ = λ e. omega arith in
      let n1 : n ≡ 1 → ⊥ = λ e. omega arith in
      rw (ne_eqb _ _ n0, ne_eqb _ _ n1)
