-- `by_passes`: what `position` finds is the first place.
use mathlib.Core.Path.{◌∙◌}
use borrow.Author.Rules.{rules}
use Rattle.std.proofs.lemmas.Iterator.{YieldsList-from_slice}
use Rattle.std.proofs.lemmas.Iterator.Search.{position_from_yields_List}
use Rattle.versions.specs.Table.{elem}
use Rattle.lists.specs.Wire.{entries}
use Rattle.slots.proofs.Laws.{found_by_position}
use Rattle.slots.proofs.by_passes.Goals as goal

pub returns : goal.returns
returns c =
    let table = c.args.table.now in
    let list = entries c.args.bytes.now in
    position_from_yields_List (λ v. elem v list) _ _ _ c.position.ensures.ran (YieldsList-from_slice table cc)
    (λ x b q k. search rules) ∙ found_by_position table list
