-- `judge`: entry by entry.
use mathlib.Core.Path.{◌≡◌}
use lib.ListN.{length}
use Rattle.lists.specs.Wire.{entries}
use Rattle.slots.specs.Slots.{MarkedTold}
use Rattle.slots.proofs.rounds.Search.judge.Given as goal

abbrev pub invariant-loop-k : goal.invariant-loop-k
invariant-loop-k l = (l.self.table ≡ l.initial.self.table) × (l.self.bytes ≡ l.initial.self.bytes) × (l.k-end ≡ length l.self.table.now)
    × MarkedTold l.self.table.now (entries l.self.bytes.now) (entries l.rest) l.slots.words l.self.marks l.slots.factor.value
