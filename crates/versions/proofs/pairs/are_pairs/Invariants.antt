-- `are_pairs`: the rest of the pairs answers for the whole.
use mathlib.Core.Path.{◌≡◌}
use lib.ListN.{drop}
use Rattle.versions.specs.Pairs.{each_pair_keeps_rule, pairs_keep_rule}
use Rattle.versions.proofs.pairs.are_pairs.Given as goal

abbrev pub invariant-loop-pair : goal.invariant-loop-pair
invariant-loop-pair l = pairs_keep_rule l.pairs ≡ each_pair_keeps_rule (drop l.pair-index l.pairs)
