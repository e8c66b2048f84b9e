-- `large_ids`: each large identifier is put behind those before it.
use Prim.Native.Nat.{◌≤◌}
use mathlib.Core.List.{◌∷◌}
use lib.ListN.{length}
use Rattle.parameters.specs.Items.{items_left}
use Rattle.parameters_reader.specs.Sizes.{from_on, ids_left, large, max_large}
use Rattle.parameters_reader.proofs.Marks.{Gathering, gather-large, gather-place, gather-small, gathering-starts, large-fit}
use Rattle.parameters_reader.proofs.identifiers.large_ids.Goals.{In-Some, Start}
use Rattle.parameters_reader.proofs.identifiers.large_ids.Goals as goal

pub loop-id-init : goal.loop-id-init
loop-id-init c = rw c.into_iter-id-iterator.ensures.into_iter_gives (gathering-starts _ _ c.requires)

next : (c : In-Some)
    → Gathering (items_left c.args.parameters.sequence.now c.args.parameters.at)
    (c.in-Some.field-0 ∷ items_left c.next.new.self.sequence.now c.next.new.self.at) c.loop-id.numbers c.loop-id.count
next c = rw c.in-Some.ensures.steps at c.loop-id.invariant

-- There is room for all of them
fit : (c : In-Some) → length (from_on large (ids_left c.args.parameters)) ≤ max_large
fit c = large-fit c.args.parameters.sequence.now c.args.parameters.bytes c.args.parameters.short c.args.parameters.at

pub bounds-numbers-count : goal.bounds-numbers-count
bounds-numbers-count c = let at = (goal.at.bounds-numbers-count c).In-Some in gather-place _ _ _ _ _ (next at) c.if-id-ge-SMALL.true (fit at)

pub loop-id-preserved-then-id-ge-SMALL : goal.loop-id-preserved-then-id-ge-SMALL
loop-id-preserved-then-id-ge-SMALL c = let at = (goal.at.loop-id-preserved-then-id-ge-SMALL c).In-Some in gather-large _ _ _ _ _ (next at) c.if-id-ge-SMALL.true (fit at)

pub loop-id-preserved : goal.loop-id-preserved
loop-id-preserved c = gather-small _ _ _ _ _ (next (goal.at.loop-id-preserved c).In-Some) c.if-id-ge-SMALL.false
