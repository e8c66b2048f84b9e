-- `clashes` is safe. No answer rests on what it counts.
use Prim.Native.Nat.{◌≤◌}
use lib.ListN.{length}
use Rattle.slots.proofs.factors.clashes.Given as goal

abbrev pub invariant-loop-version : goal.invariant-loop-version
invariant-loop-version l = l.count ≤ length l.yielded
