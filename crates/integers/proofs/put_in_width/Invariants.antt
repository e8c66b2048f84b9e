-- `put_in_width`: from the last byte to the first; what is written stands between the buffer's own bytes.
use mathlib.Core.Path.{◌≡◌}
use mathlib.Core.List.{List, ◌++◌}
use Prim.Native.Nat.{ℕ, ◌-◌, ◌/◌, ◌^◌, ◌≤◌}
use lib.ListN.{length, take, drop}
use Rattle.integers.specs.Integers.{low_bytes}
use Rattle.integers.proofs.put_in_width.Given as goal

-- What is written of the integer: its bytes from a place on, the buffer's own in front of them and behind
abbrev pub written : List ℕ → ℕ → ℕ → ℕ → List ℕ
written b w v i = take i b ++ (low_bytes (w - i) v ++ drop w b)

abbrev pub invariant-loop-i : goal.invariant-loop-i
invariant-loop-i l = (1 ≤ l.i) × (l.i ≤ l.width) × (length l.buffer ≡ length l.initial.buffer) × (l.buffer ≡ written l.initial.buffer l.width l.value l.i)
    × (l.rest ≡ l.value / 256 ^ (l.width - l.i))
