-- The rest from i on answers for the whole.
use mathlib.Core.Path.{◌≡◌}
use lib.ListN.{drop}
use Rattle.versions.specs.Table.{entries_keep_rule, table_keeps_rule}
use Rattle.versions.proofs.table.is_table.Given as goal

abbrev pub invariant-loop-i : goal.invariant-loop-i
invariant-loop-i l = table_keeps_rule l.table ≡ entries_keep_rule (drop l.i l.table)
