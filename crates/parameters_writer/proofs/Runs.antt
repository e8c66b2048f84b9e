-- Bytes put at the front of a buffer, run behind run: each is put at the front of the part that is left, which is lent.
use Prim.Native.Nat.{ℕ, ◌+◌, ◌≤◌}
use mathlib.Core.List.{List, [], ◌++◌, append_assoc}
use mathlib.Core.Path.{◌≡◌, refl, sym, ap, ap₂, ◌∙◌, subst}
use native.Mathlib.Omega.{arith}
use borrow.Author.Tests.{le-ltb}
use lib.ListN.{length, length-append}
use Rattle.refusals.specs.Reply.{Reply, Reply.answered}
use Rattle.refusals.specs.Written.{written_reply, counted, leaves}
use Rattle.refusals.specs.declared.Call.TheVariants.{Writing}
use Rattle.refusals.specs.declared.Refusal.{Refusal}
use Rattle.std.specs.Prelude.{Result, Ok, Err}
use Rattle.refusals.proofs.Rules.{answered-injective, refused-not-answered}
use Rattle.lists.proofs.Places.{length-part_from, length-put, over, part_from, put_from}
use Rattle.integers.specs.Integers.{integer_to_write, shortest_bytes, shortest_width}
use Rattle.integers.specs.Limits.{max_integer}
use Rattle.integers.proofs.Least.{length-shortest}

-- The buffer begins with so many bytes, which were put, and goes on as it was found
pub record Begins (found bytes buffer : List ℕ) (count : ℕ) : Type 0 where
  pub counts : count ≡ length bytes
  pub left : buffer ≡ leaves (answered bytes) found

pub begins-none : (found : List ℕ) → Begins found [] found 0
begins-none found = record { counts = refl; left = refl }

module _ (found ys buffer : List ℕ) (k : ℕ) (f : Begins found ys buffer k) where
  -- A run behind them
  pub begins-more : (xs part : List ℕ) (n : ℕ) → n ≡ length xs → part ≡ leaves (answered xs) (part_from k buffer)
      → Begins found (ys ++ xs) (put_from k buffer part) (k + n)
  begins-more xs part n e p = record {
    counts = ap₂ (λ (a b : ℕ). a + b) f.counts e ∙ sym (length-append ys xs);
    left = over ys xs found buffer part k f.counts f.left p;
  }

  -- Where there is room for them, the buffer is as long as it was found
  pub begins-length : length ys ≤ length found → length buffer ≡ length found
  begins-length h = ap length f.left ∙ length-put ys found h

  -- Where there is room for a run behind them, they end within the buffer, and the part that is left has room
  pub begins-inside : (xs : List ℕ) → length (ys ++ xs) ≤ length found → k ≤ length buffer
  begins-inside xs h =
      let both = length-append ys xs in
      let same = begins-length (omega (arith, h, both)) in
      omega (arith, f.counts, h, both, same)

  pub begins-room : (xs : List ℕ) → length (ys ++ xs) ≤ length found → length xs ≤ length (part_from k buffer)
  begins-room xs h =
      let both = length-append ys xs in
      let same = begins-length (omega (arith, h, both)) in
      rw (length-part_from k buffer) (omega (arith, f.counts, h, both, same))

-- Room for three runs is room for the first, and for the first two
pub room_for : (xs ys zs found : List ℕ) → length (xs ++ (ys ++ zs)) ≤ length found
    → (length xs ≤ length found) × (length (xs ++ ys) ≤ length found) × (length ((xs ++ ys) ++ zs) ≤ length found)
room_for xs ys zs found h =
    let all = length-append xs (ys ++ zs) in
    let behind = length-append ys zs in
    let two = length-append xs ys in
    (omega arith, omega arith, rw (append_assoc xs ys zs) h)

-- What the integer writer answers and leaves, where it has room
module _ (v : ℕ) (buffer : List ℕ) (small : v ≤ max_integer) (room : length (shortest_bytes v) ≤ length buffer) where
  can_write : integer_to_write v (length buffer) ≡ answered (shortest_bytes v)
  unfolding integer_to_write
  can_write =
      let fits : shortest_width v ≤ length buffer = subst (λ (n : ℕ). n ≤ length buffer) (length-shortest v) room in
      rw (le-ltb _ _ small, le-ltb _ _ fits)

  pub integer-put : (w : Result ℕ Refusal) (n : ℕ) (left : List ℕ) → written_reply w ≡ counted (integer_to_write v (length buffer))
      → w ≡ Ok n → left ≡ leaves (integer_to_write v (length buffer)) buffer → Begins buffer (shortest_bytes v) left n
  integer-put w n left a e l = record {
    counts = answered-injective n (length (shortest_bytes v)) (ap written_reply (sym e) ∙ a ∙ ap counted can_write);
    left = l ∙ ap (λ (r : Reply (List ℕ)). leaves r buffer) can_write;
  }

  pub never-refused : (w : Result ℕ Refusal) (x : Refusal) → written_reply w ≡ counted (integer_to_write v (length buffer)) → w ≡ Err x → ⊥
  never-refused w x a e =
      refused-not-answered x.0 Writing (length (shortest_bytes v)) (ap written_reply (sym e) ∙ a ∙ ap counted can_write)
