-- The start of an attempt.
use Rattle.std.specs.Prelude.{ℕ, Bool, true, false, not, ◌||◌, List, [], ◌∷◌, ◌≡◌, ltb, length, replicate, Result, Ok, Err}
use Rattle.refusals.specs.Reply.{Reply, Reply.answered, refuse}
use Rattle.refusals.specs.Rule.{Rule, Rule.◌when◌, lowest, clear}
use Rattle.refusals.specs.declared.Call.TheVariants.{Reading}
use Rattle.refusals.specs.declared.Refusal.{Refusal}
use Rattle.journal.specs.Journals.{journal_of}
use Rattle.versions.specs.Limits.{max_table}
use Rattle.versions.specs.Pairs.{pairs_keep_rule}
use Rattle.versions.specs.Table.{elem, table_keeps_rule}
use Rattle.attempt.specs.Attempt.{padded, table_of, destination_of, source_of, own_for, closed_with}
use Rattle.attempt.specs.Limits.{max_id}
use Rattle.attempt.specs.OwnList.{own_list, rows_for}
use Rattle.attempt.specs.declared.Attempt.{Attempt}
use Rattle.attempt.specs.declared.End.TheVariants.{Open}

-- "An attempt starts with a table, pairs, an Original Version and its two connection IDs, destination and source".
-- Document 02, C-17: "A start takes, beside the pairs, a list of pairs barred for this attempt's flights"
pub record Input : Type 0 where
  pub table : List ℕ
  pub pairs : List (List ℕ)
  pub barred : List (List ℕ)
  pub original : ℕ
  pub destination : List ℕ
  pub source : List ℕ

abbrev pub input_of : List ℕ → List (List ℕ) → List (List ℕ) → ℕ → List ℕ → List ℕ → Input
input_of t ps bs v d s = record { table = t; pairs = ps; barred = bs; original = v; destination = d; source = s }

-- "Our list", the own list for an attempted version, read from the start. Document 02, C-17: "demand 3's 'in our list'"
-- reads "the shorter list"; C-18: of the two own lists it is the one "as may be answered", which has no reserved number
abbrev pub our_list : Input → ℕ → List ℕ
our_list x attempted = own_list x.table x.pairs x.barred attempted

-- Document 02, C-17: the barred pairs are "under the pairs' rule, else 43"

abbrev pub start_rules : Input → List Rule
start_rules x =
    (41 when not (table_keeps_rule x.table)) ∷
    (43 when not (pairs_keep_rule x.pairs) || not (pairs_keep_rule x.barred)) ∷
    (44 when not (elem x.original x.table)) ∷
    (45 when ltb max_id (length x.destination) || ltb max_id (length x.source)) ∷
    []

-- The start is not refused
abbrev pub is_accepted : Input → Bool
is_accepted x = clear (start_rules x)

-- The record of an attempt that is open and attempts the Original Version. Document 02, C-20: "Starting again empties it",
-- the journal
unfoldable pub opened : Input → Attempt
opened x =
    record {
      table = padded max_table x.table;
      table_len = length x.table;
      rows = padded max_table (rows_for x.table x.table x.pairs x.barred);
      destination = padded max_id x.destination;
      destination_len = length x.destination;
      source = padded max_id x.source;
      source_len = length x.source;
      original = x.original;
      attempted = x.original;
      acted = false;
      heard = false;
      end = Open;
      journal = journal_of [];
    }

-- What is read of the start in a record: that of the start, and, as no event changes it, each one after it
pub record Reads (x : Input) (a : Attempt) : Type 0 where
  pub table : table_of a ≡ x.table
  pub destination : destination_of a ≡ x.destination
  pub source : source_of a ≡ x.source
  pub original : a.original ≡ x.original
  pub own : (v : ℕ) → elem v x.table ≡ true → own_for a v ≡ our_list x v

-- The record that stands for a refused start, which hands none back. It is no attempt: no table is empty, and no attempt is
-- closed with 0. Its journal is that of no events too
unfoldable pub blank : Attempt
blank =
    record {
      table = replicate max_table 0;
      table_len = 0;
      rows = replicate max_table 0;
      destination = replicate max_id 0;
      destination_len = 0;
      source = replicate max_id 0;
      source_len = 0;
      original = 0;
      attempted = 0;
      acted = false;
      heard = false;
      end = closed_with 0;
      journal = journal_of [];
    }

-- The answer has no value beside the record
pub data Nothing : Type 0 where
  nothing : Nothing

-- What a start hands back: the record and the answer
pub record Start : Type 0 where
  pub attempt : Attempt
  pub reply : Reply Nothing

abbrev pub refused_start : ℕ → Start
refused_start n = record { attempt = blank; reply = refuse Reading n }

-- The result of a start, as the record and the answer; a refusal goes with the blank record
abbrev pub shown_start : Result Attempt Refusal → Start
shown_start (Ok a) = record { attempt = a; reply = answered nothing }
shown_start (Err r) = refused_start r.0

abbrev pub opened_start : Input → Start
opened_start x = record { attempt = opened x; reply = answered nothing }

unfoldable pub start_of : Input → Start
start_of x = lowest refused_start (start_rules x) (opened_start x)
