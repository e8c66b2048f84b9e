-- The choice of a version from a list.
use Rattle.std.specs.Prelude.{ℕ, cond, not, List, [], ◌∷◌, ltb, length}
use Rattle.std.specs.Prelude.{Option, None, Some}
use Rattle.refusals.specs.Reply.{Reply, Reply.answered, refuse}
use Rattle.refusals.specs.Rule.{Rule, Rule.◌when◌, judged}
use Rattle.refusals.specs.declared.Call.TheVariants.{Reading}
use Rattle.lists.specs.Limits.{max_list}
use Rattle.versions.specs.Table.{elem, table_keeps_rule}

-- Document 01, "From a list": "The first entry of the table that occurs in the list"
unfoldable pub preferred : List ℕ → List ℕ → Option ℕ
preferred [] list = None
preferred (v ∷ table) list = cond (elem v list) (Some v) (preferred table list)

abbrev pub choice_rules : List ℕ → List ℕ → List Rule
choice_rules table list = (40 when ltb max_list (length list)) ∷ (41 when not (table_keeps_rule table)) ∷ []

-- 42: "nothing of the table is in the list"
abbrev pub or_nothing_in_common : Option ℕ → Reply ℕ
or_nothing_in_common None = refuse Reading 42
or_nothing_in_common (Some v) = answered v

unfoldable pub choose : List ℕ → List ℕ → Reply ℕ
choose table list = judged Reading (choice_rules table list) (or_nothing_in_common (preferred table list))
