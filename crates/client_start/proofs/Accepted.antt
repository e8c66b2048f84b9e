-- What an accepted start has passed.
use Prim.Native.Nat.{◌≤◌}
use mathlib.Core.Bool.{true, not, ◌||◌}
use mathlib.Core.Path.{◌≡◌}
use lib.Dec.{ltb}
use lib.ListN.{length}
use borrow.Author.Tests.{ltb-false, not-true, not-false}
use Rattle.refusals.proofs.Rules.{both_true, neither}
use Rattle.versions.specs.Pairs.{pairs_keep_rule}
use Rattle.versions.specs.Table.{elem, table_keeps_rule}
use Rattle.attempt.specs.Limits.{max_id}
use Rattle.attempt.specs.Start.{Input, is_accepted}

pub passed : (x : Input) → is_accepted x ≡ true →
    (table_keeps_rule x.table ≡ true) × (pairs_keep_rule x.barred ≡ true) × (length x.destination ≤ max_id) ×
    (length x.source ≤ max_id)
passed x h =
    let table = both_true (not (not (table_keeps_rule x.table))) _ h in
    let pairs = both_true (not (not (pairs_keep_rule x.pairs) || not (pairs_keep_rule x.barred))) _ table.1 in
    let original = both_true (not (not (elem x.original x.table))) _ pairs.1 in
    let barred = (neither (not (pairs_keep_rule x.pairs)) (not (pairs_keep_rule x.barred)) pairs.0).1 in
    let ids =
    neither (ltb max_id (length x.destination)) (ltb max_id (length x.source))
    (both_true (not (ltb max_id (length x.destination) || ltb max_id (length x.source))) _ original.1).0 in (
      not-false _ (not-true _ table.0),
      not-false _ barred,
      ltb-false _ _ ids.0,
      ltb-false _ _ ids.1,
    )
