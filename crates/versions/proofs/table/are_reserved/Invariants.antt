-- The rest from i on answers for the whole.
use mathlib.Core.Path.{◌≡◌}
use lib.ListN.{drop}
use Rattle.versions.specs.Reserved.{each_reserved, reserved_keep_rule}
use Rattle.versions.proofs.table.are_reserved.Given as goal

abbrev pub invariant-loop-i : goal.invariant-loop-i
invariant-loop-i l = reserved_keep_rule l.numbers ≡ each_reserved (drop l.i l.numbers)
