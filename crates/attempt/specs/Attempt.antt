-- The record of an attempt: how it is read, and how an event changes it.
use Rattle.std.specs.Prelude.{ℕ, Bool, true, false, List, ◌++◌, length, take, drop, replicate}
use Rattle.journal.specs.declared.Journal.{Journal}
use Rattle.versions.specs.Limits.{max_table}
use Rattle.attempt.specs.AsSent.{list_as_sent}
use Rattle.attempt.specs.OwnList.{own_in}
use Rattle.attempt.specs.declared.Attempt.{Attempt}
use Rattle.attempt.specs.declared.End.{End}
use Rattle.attempt.specs.declared.End.TheVariants.{Open, Completed, Closed}
use Rattle.attempt.specs.declared.OwnList.{OwnList}

-- A list put over the front of what was found; the places past it keep their values. It is what a buffer holds after an
-- answer (`leaves`, crates/refusals/specs/Written.antt); over zeros it is `padded`
abbrev pub over : List ℕ → List ℕ → List ℕ
over xs found = xs ++ drop (length xs) found

-- A list in an array of n places: "places past a count are 0"
unfoldable pub padded : ℕ → List ℕ → List ℕ
padded n xs = xs ++ drop (length xs) (replicate n 0)

abbrev pub table_of : Attempt → List ℕ
table_of a = take a.table_len a.table

abbrev pub destination_of : Attempt → List ℕ
destination_of a = take a.destination_len a.destination

abbrev pub source_of : Attempt → List ℕ
source_of a = take a.source_len a.source

-- The own list for a version, read from the record
abbrev pub own_for : Attempt → ℕ → List ℕ
own_for a v = own_in (table_of a) a.rows v

-- The own list of the attempt, which is that of the attempted version
unfoldable pub own_of : Attempt → List ℕ
own_of a = own_for a a.attempted

-- Document 02, C-18: "The own list now is two: as sent, and as may be answered. Rule 72 and demand 3's 'in our list' read
-- the second"

-- As may be answered: the own list itself
abbrev pub own_as_answered : Attempt → List ℕ
own_as_answered a = own_of a

-- As sent: with the reserved numbers that are given, each at its place
abbrev pub own_as_sent : Attempt → List (List ℕ) → List ℕ
own_as_sent a given = list_as_sent (own_as_answered a) given

-- A list as an array and a count
abbrev pub list_in_places : List ℕ → OwnList
list_in_places vs = record { versions = padded max_table vs; count = length vs }

-- The own list as an array and a count
abbrev pub own_list_of : Attempt → OwnList
own_list_of a = list_in_places (own_of a)

-- Closed with the refusal of a number
abbrev pub closed_with : ℕ → End
closed_with n = Closed (record { 0 = n })

abbrev pub is_open : End → Bool
is_open Open = true
is_open (Completed v) = false
is_open (Closed r) = false

-- "the end mark of the record .., which tells completed from closed"
abbrev pub is_completed : End → Bool
is_completed Open = false
is_completed (Completed v) = true
is_completed (Closed r) = false

-- The record with the fields that document 01 lets an event change; every other field stays
abbrev pub put : Attempt → ℕ → Bool → Bool → End → Attempt
put a attempted' acted' heard' end' =
    record {
      table = a.table;
      table_len = a.table_len;
      rows = a.rows;
      destination = a.destination;
      destination_len = a.destination_len;
      source = a.source;
      source_len = a.source_len;
      original = a.original;
      attempted = attempted';
      acted = acted';
      heard = heard';
      end = end';
      journal = a.journal;
    }

-- The record with another journal; every other field stays
abbrev pub with_journal : Attempt → Journal → Attempt
with_journal a j =
    record {
      table = a.table;
      table_len = a.table_len;
      rows = a.rows;
      destination = a.destination;
      destination_len = a.destination_len;
      source = a.source;
      source_len = a.source_len;
      original = a.original;
      attempted = a.attempted;
      acted = a.acted;
      heard = a.heard;
      end = a.end;
      journal = j;
    }

-- "An ending changes the end mark alone."
abbrev pub ended : Attempt → End → Attempt
ended a e = put a a.attempted a.acted a.heard e
