-- `chooses_again` meets its contract: the rest of the table answers for the whole.
use mathlib.Core.List.{[], ◌∷◌, ◌++◌}
use mathlib.Core.Path.{◌≡◌}
use lib.ListN.{drop}
use Rattle.choosing.specs.Choice.{preferred}
use Rattle.lists.specs.Wire.{entries}
use Rattle.client_outcome.proofs.judging.chooses_again.Given as goal

abbrev pub invariant-loop-version : goal.invariant-loop-version
invariant-loop-version l =
    let list = entries l.available ++ (l.in_use ∷ []) in
    preferred l.table list ≡ preferred (drop l.version-index l.table) list
