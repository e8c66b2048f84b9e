-- `mark_standing`: entry by entry.
use Prim.Native.Nat.{ℕ, ◌<◌}
use mathlib.Core.Path.{◌≡◌}
use lib.ListN.{length, get_or}
use Rattle.slots.specs.Slots.{Stands}
use Rattle.slots.specs.declared.rounds.Mark.TheVariants.{Absent, Standing}
use Rattle.slots.proofs.rounds.Search.mark_standing.Given as goal

abbrev pub invariant-loop-k : goal.invariant-loop-k
invariant-loop-k l = (l.self.table ≡ l.initial.self.table) × (l.self.bytes ≡ l.initial.self.bytes) × (l.k-end ≡ length l.self.table.now)
    × ((j : ℕ) → j < l.k → get_or l.self.marks j Absent ≡ Standing → Stands l.slots.words l.slots.factor.value (get_or l.self.table.now j 0))
