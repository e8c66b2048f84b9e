-- `value_at`: the bytes passed make a number, of which and of the bytes left the integer is made.
use mathlib.Core.Path.{◌≡◌, refl, sym, ap, ◌∙◌}
use mathlib.Core.List.{List}
use Prim.Native.Nat.{ℕ, ◌+◌, ◌-◌, ◌*◌, ◌^◌, ◌≤◌, ◌<◌}
use native.Mathlib.Numerals.{add-one}
use native.Mathlib.Omega.{arith}
use lib.ListN.{drop, take, length, get_or}
use lib.Seq.{drop-cons, drop-length, slice}
use Rattle.std.proofs.lemmas.Grind.{common_steps}
use Rattle.std.proofs.lemmas.List.{drop-take}
use Rattle.integers.specs.Integers.{from_bytes, value_at}
use Rattle.integers.proofs.RoundTrip.{bound, bound-top, bound-step}
use Rattle.integers.proofs.value_at.Goals as goal

pub loop-byte-init : goal.loop-byte-init
unfolding value_at
loop-byte-init c =
    let s = c.args.bytes.now in
    let w = c.args.width in
    let whole : 1 + (w - 1) ≡ w = omega arith in
    let behind : take (w - 1) (drop 1 s) ≡ slice 1 w s = sym (drop-take 1 (w - 1) s) ∙ ap (λ (x : ℕ). drop 1 (take x s)) whole in
    (omega arith, rw (behind, c.from-value.ensures) refl)

-- One more byte: the number still fits
module _ (w v i b : ℕ) (bytes : List ℕ) (eight : w ≤ 8) (more : i < length (take (w - 1) (drop 1 bytes))) (low : v < bound (i + 1)) (byte : b < 256) where
  next-bound : v * 256 + b < bound (i + 1 + 1)
  next-bound = let step = bound-step (i + 1) (omega arith) in omega (arith, step)

  next-fits : v * 256 + b < 2 ^ 64
  next-fits =
      let within : i < w - 1 = grind (arith, common_steps) in
      let top = bound-top (i + 1 + 1) (omega arith) in omega (arith, top, next-bound)

pub overflow_mul-value : goal.overflow_mul-value
overflow_mul-value c =
    let fits = next-fits c.args.width c.loop-byte.value c.loop-byte.byte-index 0 c.args.bytes.now c.requires.1 c.loop-byte-test.true c.loop-byte.invariant.0 (omega arith) in
    omega (arith, fits)

pub overflow_add-value : goal.overflow_add-value
overflow_add-value c =
    let item = c.type_inv.bytes (1 + c.loop-byte.byte-index) in
    let byte : c.from.result < 256 = grind (arith, common_steps, item) in
    let fits = next-fits c.args.width c.loop-byte.value c.loop-byte.byte-index c.from.result c.args.bytes.now c.requires.1 c.loop-byte-test.true c.loop-byte.invariant.0 byte in
    omega (arith, fits)

next-byte : (v i x : ℕ) (xs : List ℕ) → i < length xs → x ≡ get_or xs i 0 → from_bytes (v * 256 + x) (drop (i + 1) xs) ≡ from_bytes v (drop i xs)
unfolding from_bytes
next-byte v i x xs h e = rw (drop-cons xs i 0 h, add-one i, e) refl

pub loop-byte-preserved : goal.loop-byte-preserved
loop-byte-preserved c =
    let item = c.type_inv.bytes (1 + c.loop-byte.byte-index) in
    let byte : c.from.result < 256 = grind (arith, common_steps, item) in (
      next-bound c.args.width c.loop-byte.value c.loop-byte.byte-index c.from.result c.args.bytes.now c.requires.1 c.loop-byte-test.true c.loop-byte.invariant.0 byte,
      next-byte c.loop-byte.value c.loop-byte.byte-index c.from.result _ c.loop-byte-test.true c.from.ensures ∙ c.loop-byte.invariant.1,
    )

pub returns : goal.returns
unfolding from_bytes
returns c =
    let done : c.loop-byte.byte-index ≡ length (take (c.args.width - 1) (drop 1 c.args.bytes.now)) = omega arith in
    let none = drop-length (take (c.args.width - 1) (drop 1 c.args.bytes.now)) in
    rw (done, none) at c.loop-byte.invariant.1
