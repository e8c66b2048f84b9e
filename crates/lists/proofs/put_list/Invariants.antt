-- After i versions the buffer is their bytes, and what stood behind them.
use Prim.Native.Nat.{◌*◌}
use mathlib.Core.List.{◌++◌}
use mathlib.Core.Path.{◌≡◌}
use lib.ListN.{length, take, drop}
use Rattle.lists.specs.Wire.{list_bytes, version_bytes}
use Rattle.lists.proofs.put_list.Given as goal

abbrev pub invariant-loop-i : goal.invariant-loop-i
invariant-loop-i l = (l.count ≡ length l.versions)
    × (length l.buffer ≡ length l.initial.buffer)
    × (l.buffer ≡ list_bytes (take l.i l.versions) ++ drop (l.i * version_bytes) l.initial.buffer)
