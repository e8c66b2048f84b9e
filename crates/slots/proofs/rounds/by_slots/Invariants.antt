-- `by_slots`: each round leaves the answer.
use mathlib.Core.Path.{◌≡◌}
use Rattle.lists.specs.Wire.{entries}
use Rattle.slots.specs.First.{first_place}
use Rattle.slots.proofs.rounds.by_slots.Given as goal

abbrev pub invariant-loop : goal.invariant-loop
invariant-loop l = first_place l.search.table.now (entries l.search.bytes.now) ≡ first_place l.table (entries l.bytes)
