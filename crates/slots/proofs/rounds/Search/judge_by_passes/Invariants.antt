-- `judge_by_passes`: every entry before the answer is absent.
use Prim.Native.Nat.{ℕ, ◌<◌}
use mathlib.Core.Bool.{false}
use mathlib.Core.Path.{◌≡◌}
use lib.ListN.{get_or}
use Rattle.lists.specs.Wire.{entries}
use Rattle.versions.specs.Table.{elem}
use Rattle.slots.proofs.rounds.Search.judge_by_passes.Given as goal

abbrev pub invariant-loop-place : goal.invariant-loop-place
invariant-loop-place l = (j : ℕ) → j < l.place → elem (get_or l.table.now j 0) (entries l.bytes.now) ≡ false
