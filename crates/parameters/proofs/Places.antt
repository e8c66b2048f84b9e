-- An integer that is read at a place of a sequence, and that nothing is read at its end.
use Prim.Native.Nat.{ℕ, ◌+◌, ◌≤◌}
use mathlib.Core.List.{List}
use mathlib.Core.Path.{◌≡◌}
use native.Mathlib.Omega.{arith}
use borrow.Author.Tests.{le-ltb, lt-ltb}
use lib.ListN.{length, drop, drop_of_length-le, length-drop}
use Rattle.refusals.specs.Reply.{Reply.answered, refuse}
use Rattle.refusals.specs.declared.Call.TheVariants.{Reading}
use Rattle.versions.proofs.Lists.{part-rest}
use Rattle.integers.specs.Integers.{Found, read_integer, width_of}
use Rattle.integers.proofs.RoundTrip.{read-within}

-- Nothing is read at the end or past it
pub nothing_left : (s : List ℕ) (at : ℕ) → length s ≤ at → read_integer (drop at s) ≡ refuse Reading 81
unfolding read_integer width_of
nothing_left s at h = rw (drop_of_length-le s h)

-- An integer that is read at a place of the sequence ends within it
pub ends-within : (s : List ℕ) (at : ℕ) (f : Found) → at ≤ length s → read_integer (drop at s) ≡ answered f
    → (1 ≤ f.width) × (at + f.width ≤ length s)
ends-within s at f h e =
    let in_rest = read-within (drop at s) f e in
    let rest = length-drop at s in
    (in_rest.0, omega (arith, in_rest.1, rest, h))

-- What the reader's steps follow from
pub ruleset reading = (part-rest, nothing_left, ends-within, lt-ltb, le-ltb)
