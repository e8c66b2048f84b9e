-- The elements of a slice of bytes are below 256, which a walk of the code knows place by place.
use Prim.Native.Nat.{ℕ, suc, ◌+◌, ◌<◌, ◌≤◌}
use mathlib.Core.Bool.{true}
use mathlib.Core.List.{List, [], ◌∷◌}
use mathlib.Core.Path.{◌≡◌, refl, sym, subst}
use native.Mathlib.Omega.{arith}
use lib.ListN.{drop, get_or}
use Rattle.refusals.specs.Reply.{Reply.answered}
use Rattle.lists.specs.Wire.{all_below}
use Rattle.lists.proofs.Entries.{all_below-cons, all_below-drop}
use Rattle.integers.specs.Integers.{held_below}
use Rattle.integers.specs.Limits.{max_integer}
use Rattle.integers.proofs.Held.{read_told, told-least}
use Rattle.integers.proofs.Least.{wide_from}
use Rattle.integers.proofs.RoundTrip.{read-within}
use Rattle.parameters.specs.Sequence.{Field, field_at}
use Rattle.parameters.proofs.Walk.{field-parts}

pub bytes_below : (s : List ℕ) → ((i : ℕ) → get_or s i 0 < 256) → all_below 256 s ≡ true
unfolding all_below
bytes_below [] h = refl
bytes_below (x ∷ xs) h = all_below-cons 256 x xs (h 0) (bytes_below xs (λ i. h (suc i)))

-- Of a parameter that is read: its identifier can be written, and a large one takes four bytes, its length another one
pub record Sized (at : ℕ) (f : Field) : Type 0 where
  pub can-be-written : f.id ≤ max_integer
  pub takes : held_below 1 ≤ f.id → at + 5 ≤ f.value.start

pub field-sized : (s : List ℕ) (at : ℕ) (f : Field) → ((i : ℕ) → get_or s i 0 < 256) → field_at s at ≡ answered f → Sized at f
field-sized s at f below e =
    let p = field-parts s at f e in
    let i = p.the-id in
    let l = p.the-length in
    let told = read_told (drop at s) i (all_below-drop 256 at s (bytes_below s below)) p.id-read in
    let least = told-least told in
    let one = (read-within (drop (at + i.width) s) l p.length-read).0 in
    let sized : Sized at (record {
      id = i.value;
      value = record { start = at + i.width + l.width; end = at + i.width + l.width + l.value };
    }) = record {
      can-be-written = told.most;
      takes = λ h. let four = wide_from i.value h in omega (arith, four, least, one);
    } in
    subst (Sized at) (sym p.is) sized
