-- A number turned: its four bytes in the other order. Turned twice it is itself, so two numbers are equal just where
-- they are equal turned.
use Prim.Native.Nat.{ℕ, ◌+◌, ◌*◌, ◌/◌, ◌%◌, ◌^◌, ◌<◌}
use mathlib.Core.Bool.{Bool, true, false}
use mathlib.Core.Path.{◌≡◌, refl, sym, ap, ◌∙◌}
use mathlib.Core.List.{List}
use native.Mathlib.Nat.{add-zero}
use native.Mathlib.Omega.{arith}
use lib.Dec.{eqb}
use lib.ListN.{length, drop, get_or}
use lib.Seq.{get_or-drop}
use borrow.Author.Tests.{eqb-true, eq-eqb, ne_eqb, eqb-false}
use Rattle.lists.specs.Wire.{number, number_at, turned, version_bytes, entries}
use Rattle.lists.proofs.Entries.{number-bytes_of, drop-entries, entries-step}

-- The bytes of a number, in the other order
pub turned-number : (a b c d : ℕ) → a < 256 → b < 256 → c < 256 → d < 256 → turned (number a b c d) ≡ number d c b a
unfolding turned
turned-number a b c d ha hb hc hd =
    let ea : number a b c d / 0x1000000 ≡ a = omega arith in
    let eb : number a b c d / 0x10000 % 256 ≡ b = omega arith in
    let ec : number a b c d / 0x100 % 256 ≡ c = omega arith in
    let ed : number a b c d % 256 ≡ d = omega arith in
    rw (ea, eb, ec, ed)

-- Turned twice
pub turned-twice : (v : ℕ) → v < 2 ^ 32 → turned (turned v) ≡ v
turned-twice v h =
    let a : v / 0x1000000 % 256 ≡ v / 0x1000000 = omega arith in
    let bytes = rw a at (number-bytes_of v h) in
    ap (λ (n : ℕ). turned (turned n)) (sym bytes) ∙
    ap turned
    (turned-number (v / 0x1000000) (v / 0x10000 % 256) (v / 0x100 % 256) (v % 256)
    (omega arith) (omega arith) (omega arith) (omega arith)) ∙
    turned-number (v % 256) (v / 0x100 % 256) (v / 0x10000 % 256) (v / 0x1000000)
    (omega arith) (omega arith) (omega arith) (omega arith) ∙
    bytes

-- Numbers that are equal turned are equal
pub turned-equal : (x y : ℕ) → x < 2 ^ 32 → y < 2 ^ 32 → turned x ≡ turned y → x ≡ y
turned-equal x y hx hy e = sym (turned-twice x hx) ∙ ap turned e ∙ turned-twice y hy

pub turned-eqb : (x y : ℕ) → x < 2 ^ 32 → y < 2 ^ 32 → eqb (turned x) (turned y) ≡ eqb x y
turned-eqb x y hx hy = go (eqb x y) refl
  where
    go : (b : Bool) → eqb x y ≡ b → eqb (turned x) (turned y) ≡ eqb x y
    go true e = eq-eqb _ _ (ap turned (eqb-true x y e)) ∙ sym e
    go false e = ne_eqb _ _ (λ q. eqb-false x y e (turned-equal x y hx hy q)) ∙ sym e

-- The entry at a place is the number there
pub entry-number : (s : List ℕ) (place : ℕ) → place < length s / version_bytes
    → get_or (entries s) place 0 ≡ number_at s (place * version_bytes)
entry-number s place h =
    let here : get_or (drop place (entries s)) 0 0 ≡ get_or (entries s) place 0 = get_or-drop place (entries s) 0 0 ∙ rw (add-zero) in
    sym here ∙
    rw (drop-entries place s, entries-step s (place * version_bytes) (omega arith))

-- An entry read little endian is the entry turned; an entry is below 2 ^ 32
pub word_of : (s : List ℕ) (place : ℕ) → place < length s / version_bytes → ((i : ℕ) → get_or s i 0 < 256)
    → (number (get_or s (place * version_bytes + 3) 0) (get_or s (place * version_bytes + 2) 0)
    (get_or s (place * version_bytes + 1) 0) (get_or s (place * version_bytes) 0) ≡ turned (get_or (entries s) place 0))
    × (get_or (entries s) place 0 < 2 ^ 32)
word_of s place h below =
    let k = place * version_bytes in
    let e = entry-number s place h in
    let b0 = below k in
    let b1 = below (k + 1) in
    let b2 = below (k + 2) in
    let b3 = below (k + 3) in (
      sym
          (ap turned e ∙
          turned-number (get_or s k 0) (get_or s (k + 1) 0) (get_or s (k + 2) 0) (get_or s (k + 3) 0) b0 b1 b2 b3),
      rw e (omega arith),
    )
