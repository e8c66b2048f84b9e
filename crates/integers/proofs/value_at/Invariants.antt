-- `value_at`: the bytes passed make a number, of which and of the bytes left the integer is made.
use mathlib.Core.Path.{◌≡◌}
use Prim.Native.Nat.{◌+◌, ◌<◌}
use lib.ListN.{drop}
use Rattle.integers.specs.Integers.{from_bytes, value_at}
use Rattle.integers.proofs.RoundTrip.{bound}
use Rattle.integers.proofs.value_at.Given as goal

abbrev pub invariant-loop-byte : goal.invariant-loop-byte
invariant-loop-byte l = (l.value < bound (l.byte-index + 1)) × (from_bytes l.value (drop l.byte-index l.byte-items) ≡ value_at l.bytes l.width)
