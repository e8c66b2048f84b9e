-- The rest of the table answers for the whole.
use mathlib.Core.Path.{◌≡◌}
use lib.ListN.{drop}
use Rattle.choosing.specs.Choice.{preferred}
use Rattle.choosing.proofs.RefSliceU32Searched.first_of.Given as goal

abbrev pub invariant-loop-version : goal.invariant-loop-version
invariant-loop-version l = preferred l.table l.self ≡ preferred (drop l.version-index l.table) l.self
