-- Worked calls by words: P1 to P3 of document 01, tables of 64 entries, repeats, bits past the table, and the limit of a
-- list. Each is computed from the definitions alone.
use Prim.Native.Nat.{◌^◌, ◌-◌}
use mathlib.Core.List.{[], ◌∷◌, ◌++◌}
use mathlib.Core.Path.{◌≡◌, refl}
use lib.Count.{count_trailing_zeros}
use lib.ListN.{replicate}
use Rattle.refusals.specs.Reply.{Reply.answered, refuse}
use Rattle.refusals.specs.declared.Call.TheVariants.{Reading}
use Rattle.versions.specs.Table.{elem, entries_keep_rule, table_keeps_rule}
use Rattle.versions.specs.Version.{reserved, usable}
use Rattle.versions.specs.Words.{word_bits, entries_where, word_where, members}
use Rattle.versions.proofs.Worked.{down-from}
use Rattle.choosing.specs.Choice.{preferred}
use Rattle.choosing.proofs.Worked.{table}
use Rattle.sets.specs.Sets.{list_word, count_held, choose_from_word}

-- "table 14, 12, 10"
pub record Choices : Type 0 where
  -- P1, "list 10, 13, 14": places 0 and 2
  pub P1-word : list_word table (10 ∷ 13 ∷ 14 ∷ []) ≡ answered 5
  pub P1-place : count_trailing_zeros word_bits 5 ≡ 0
  pub P1 : choose_from_word table 5 ≡ answered 14
  pub P1-count : count_held table (10 ∷ 13 ∷ 14 ∷ []) ≡ answered 2
  -- P2, "empty list"
  pub P2-word : list_word table [] ≡ answered 0
  pub P2 : choose_from_word table 0 ≡ refuse Reading 42
  pub P2-count : count_held table [] ≡ answered 0
  -- P3, "list 13, 0x1a2a3a4a"
  pub P3-word : list_word table (13 ∷ 0x1a2a3a4a ∷ []) ≡ answered 0
  pub P3-count : count_held table (13 ∷ 0x1a2a3a4a ∷ []) ≡ answered 0
  -- a repeat is counted once
  pub repeats : count_held table (12 ∷ 12 ∷ 12 ∷ []) ≡ answered 1
  -- a bit past the table is that of no entry, alone or beside another
  pub past : choose_from_word table 8 ≡ refuse Reading 42
  pub past-beside : choose_from_word table 12 ≡ answered 10
  -- a table that breaks its rule
  pub broken : choose_from_word (14 ∷ 14 ∷ []) 1 ≡ refuse Reading 41

pub choices : Choices
unfolding count_trailing_zeros list_word count_held choose_from_word preferred entries_where word_where members elem table_keeps_rule
    entries_keep_rule usable reserved
choices =
    record {
      P1-word = refl;
      P1-place = refl;
      P1 = refl;
      P1-count = refl;
      P2-word = refl;
      P2 = refl;
      P2-count = refl;
      P3-word = refl;
      P3-count = refl;
      repeats = refl;
      past = refl;
      past-beside = refl;
      broken = refl;
    }

-- Tables of 64 entries: the versions from 64 down to 1
pub record FullTables : Type 0 where
  -- the only match is at the last place
  pub last_word : list_word (down-from 64) (99 ∷ 1 ∷ []) ≡ answered (2 ^ 63)
  pub last-place : count_trailing_zeros word_bits (2 ^ 63) ≡ 63
  pub last : choose_from_word (down-from 64) (2 ^ 63) ≡ answered 1
  -- the list holds all 64
  pub all-word : list_word (down-from 64) (down-from 64) ≡ answered (2 ^ 64 - 1)
  pub all : choose_from_word (down-from 64) (2 ^ 64 - 1) ≡ answered 64
  pub all-count : count_held (down-from 64) (down-from 64) ≡ answered 64

pub full-tables : FullTables
unfolding count_trailing_zeros list_word count_held choose_from_word preferred entries_where word_where members elem table_keeps_rule
    entries_keep_rule usable reserved
full-tables =
    record {
      last_word = refl;
      last-place = refl;
      last = refl;
      all-word = refl;
      all = refl;
      all-count = refl;
    }

-- Refusal 40: "list to choose from over 16,382 entries"
pub record AtTheLimit : Type 0 where
  -- the last entry of a full list sets its bit
  pub last : list_word table (replicate 16381 13 ++ 10 ∷ []) ≡ answered 4
  -- one entry more is refused, and before the table is judged
  pub over : list_word table (replicate 16383 14) ≡ refuse Reading 40
  pub over_first : count_held [] (replicate 16383 14) ≡ refuse Reading 40

pub at-the-limit : AtTheLimit
unfolding list_word count_held entries_where word_where elem table_keeps_rule entries_keep_rule usable reserved
at-the-limit = record { last = refl; over = refl; over_first = refl }
