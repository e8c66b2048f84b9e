-- `scan`: up to the next entry that stands, then past it.
use mathlib.Core.Path.{◌≡◌}
use lib.ListN.{length}
use Rattle.lists.specs.Wire.{entries}
use Rattle.slots.specs.Slots.{Scanned}
use Rattle.slots.proofs.scan.scan.Given as goal

abbrev pub invariant-loop-hit : goal.invariant-loop-hit
invariant-loop-hit l = (l.slots.factor ≡ l.initial.slots.factor)
    × Scanned l.initial.slots.words l.slots.words (entries l.bytes) (entries l.rest) l.initial.slots.factor.value

abbrev pub decreases-loop-hit : goal.decreases-loop-hit
decreases-loop-hit l = length (entries l.rest)
