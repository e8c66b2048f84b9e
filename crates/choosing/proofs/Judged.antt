-- The rules of a choice along the code of whatever is judged by them: 40, 41, then the answer.
use Prim.Native.Nat.{ℕ, ◌<◌, ◌≤◌}
use mathlib.Core.Bool.{true, false}
use mathlib.Core.List.{List}
use mathlib.Core.Path.{◌≡◌}
use lib.ListN.{length}
use borrow.Author.Tests.{lt-ltb, le-ltb}
use Rattle.refusals.specs.Reply.{Reply, refuse}
use Rattle.refusals.specs.Rule.{judged}
use Rattle.refusals.specs.declared.Call.TheVariants.{Reading}
use Rattle.versions.specs.Table.{table_keeps_rule}
use Rattle.lists.specs.Limits.{max_list}
use Rattle.choosing.specs.Choice.{choice_rules}

module _ {A : Type 0} (table list : List ℕ) (answer : Reply A) where
  pub judged-too-long : max_list < length list → judged Reading (choice_rules table list) answer ≡ refuse Reading 40
  judged-too-long l = rw (lt-ltb _ _ l)

  pub judged-bad-table : length list ≤ max_list → table_keeps_rule table ≡ false →
      judged Reading (choice_rules table list) answer ≡ refuse Reading 41
  judged-bad-table l broken = rw (le-ltb _ _ l, broken)

  pub judged-clear : length list ≤ max_list → table_keeps_rule table ≡ true →
      judged Reading (choice_rules table list) answer ≡ answer
  judged-clear l kept = rw (le-ltb _ _ l, kept)
