-- Worked choices of document 01, "Calls from both sides of the line", and choices at the limit of a list. Each
-- is computed from the definitions alone.
use Prim.Native.Nat.{ℕ}
use mathlib.Core.List.{List, [], ◌∷◌, ◌++◌}
use mathlib.Core.Path.{◌≡◌, refl}
use lib.ListN.{replicate}
use Rattle.refusals.specs.Reply.{Reply.answered, refuse}
use Rattle.refusals.specs.declared.Call.TheVariants.{Reading}
use Rattle.choosing.specs.Choice.{choose, preferred}
use Rattle.versions.specs.Table.{elem, entries_keep_rule, table_keeps_rule}
use Rattle.versions.specs.Version.{reserved, usable}

-- "table 14, 12, 10"
abbrev pub table : List ℕ
table = 14 ∷ 12 ∷ 10 ∷ []

pub record Choices : Type 0 where
  -- "P1 table 14, 12, 10; list 10, 13, 14: 14"
  pub P1 : choose table (10 ∷ 13 ∷ 14 ∷ []) ≡ answered 14
  -- "P2 empty list: 42"
  pub P2 : choose table [] ≡ refuse Reading 42
  -- "P3 list 13, 0x1a2a3a4a: 42"
  pub P3 : choose table (13 ∷ 0x1a2a3a4a ∷ []) ≡ refuse Reading 42

pub choices : Choices
unfolding choose preferred elem table_keeps_rule entries_keep_rule usable reserved
choices = record { P1 = refl; P2 = refl; P3 = refl }

-- Refusal 40: "list to choose from over 16,382 entries"
pub record AtTheLimit : Type 0 where
  -- the last entry of a full list is chosen
  pub last : choose table (replicate 16381 13 ++ 10 ∷ []) ≡ answered 10
  -- a full list with nothing in common
  pub full : choose table (replicate 16382 13) ≡ refuse Reading 42
  -- one entry more is refused, whatever it holds
  pub over : choose table (replicate 16383 14) ≡ refuse Reading 40
  -- and before the table is judged
  pub over_first : choose [] (replicate 16383 14) ≡ refuse Reading 40

pub at-the-limit : AtTheLimit
unfolding choose preferred elem table_keeps_rule entries_keep_rule usable reserved
at-the-limit = record { last = refl; full = refl; over = refl; over_first = refl }
