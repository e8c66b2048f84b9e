-- `put_in_width`: from the last byte to the first; what is written stands between the buffer's own bytes.
use mathlib.Core.Path.{◌≡◌, sym, ap, ◌∙◌, subst}
use mathlib.Core.List.{List, ◌∷◌, ◌++◌}
use Prim.Native.Nat.{ℕ, ◌+◌, ◌-◌, ◌*◌, ◌/◌, ◌%◌, ◌^◌, ◌<◌, ◌≤◌}
use native.Mathlib.Omega.{arith}
use native.Mathlib.Nat.{sub_self, div-one, mod-eq_of_lt, le_trans, le_refl}
use lib.ListN.{length, take, drop, set, take-append-drop}
use borrow.Author.Rules.{rules}
use Rattle.integers.specs.Integers.{low_bytes, integer_bytes, held_below, width_of}
use Rattle.integers.proofs.RoundTrip.{one-le-width, push-low, low_step, rest-step, small_top}
use Rattle.integers.proofs.put_in_width.Invariants.{written}
use Rattle.integers.proofs.put_in_width.Goals as goal

begun : (b : List ℕ) (w v : ℕ) → b ≡ take w b ++ (low_bytes (w - w) v ++ drop w b)
unfolding low_bytes
begun b w v = rw (sub_self w) (sym (take-append-drop w b))

stepped : (b now : List ℕ) (w v i rest : ℕ) → 1 ≤ i → i ≤ w → w ≤ length b → now ≡ written b w v i → rest ≡ v / 256 ^ (w - i)
    → set now (i - 1) (rest % 256) ≡ written b w v (i - 1)
stepped b now w v i rest one h k e r =
    ap (λ (l : List ℕ). set l (i - 1) (rest % 256)) e
    ∙ push-low b i (rest % 256) (low_bytes (w - i) v ++ drop w b) one (le_trans h k)
    ∙ ap (λ (l : List ℕ). take (i - 1) b ++ (l ++ drop w b))
    (ap (λ (x : ℕ). (x % 256) ∷ low_bytes (w - i) v) r ∙ sym (low_step w i v one h))

ended : (b now : List ℕ) (w k v i rest : ℕ) → i ≡ 1 → w ≡ width_of k → v < held_below k → w ≤ length b
    → now ≡ written b w v i → rest ≡ v / 256 ^ (w - i)
    → set now 0 (k * 64 + rest % 64) ≡ integer_bytes k v ++ drop w b
unfolding integer_bytes
ended b now w k v i rest one ew small h e r =
    let q : rest ≡ v / 256 ^ (width_of k - 1) = r ∙ ap (λ (x : ℕ). v / 256 ^ (w - x)) one ∙ ap (λ (x : ℕ). v / 256 ^ (x - 1)) ew in
    let first : rest % 64 ≡ v / 256 ^ (width_of k - 1) = ap (λ (x : ℕ). x % 64) q ∙ mod-eq_of_lt (small_top k v small) in
    let has : 1 ≤ length b = le_trans (subst (λ (x : ℕ). 1 ≤ x) (sym ew) (one-le-width k)) h in
    ap (λ (l : List ℕ). set l 0 (k * 64 + rest % 64)) (e ∙ ap (written b w v) one)
    ∙ push-low b 1 (k * 64 + rest % 64) (low_bytes (w - 1) v ++ drop w b) (le_refl 1) has
    ∙ ap (λ (x : ℕ). (k * 64 + x) ∷ (low_bytes (w - 1) v ++ drop w b)) first
    ∙ ap (λ (x : ℕ). (k * 64 + v / 256 ^ (width_of k - 1)) ∷ (low_bytes (x - 1) v ++ drop w b)) ew

pub loop-i-init : goal.loop-i-init
loop-i-init c = let b = c.args.buffer.now in
    let w = c.args.width in
    let v = c.args.value in
    (subst (λ (x : ℕ). 1 ≤ x) (sym c.requires.1) (one-le-width c.args.form), search rules, search rules, begun b w v, rw (sub_self w) (sym (div-one v)))

pub loop-i-preserved : goal.loop-i-preserved
loop-i-preserved c = let loop = c.loop-i in
    let b = c.args.buffer.now in
    let w = c.args.width in
    let v = c.args.value in
    let i = loop.i in
    let one = loop.invariant.0 in
    let within = loop.invariant.1 in (
      search rules,
      search rules,
      search rules,
      stepped b loop.buffer w v i loop.rest one within c.requires.3 loop.invariant.3 loop.invariant.4,
      ap (λ (x : ℕ). x / 256) loop.invariant.4 ∙ rest-step w i v one within,
    )

pub returns : goal.returns
returns c = let loop = c.loop-i in
    let one : loop.i ≡ 1 = omega (arith, loop.invariant.0, c.loop-i-test.false) in
    let args = c.args in
    ended args.buffer.now loop.buffer args.width args.form args.value loop.i loop.rest one c.requires.1
    c.requires.2 c.requires.3 loop.invariant.3 loop.invariant.4
