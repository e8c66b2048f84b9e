-- The journal of an attempt. Document 02, C-20: "the last eight event answers, oldest first (0: no refusal; unused places
-- are 0 and last), and the count of all events, stopping at 4,294,967,295 while the answers go on".
use Rattle.std.specs.Prelude.{ℕ, ◌+◌, ◌-◌, min, cond, List, [], ◌∷◌, ◌++◌, ltb, length, drop, set, replicate}
use Rattle.journal.specs.declared.Journal.{Journal}
use Rattle.journal.specs.declared.Told.{Told}

-- "the last eight event answers"
abbrev pub places : ℕ
places = 8

-- "stopping at 4,294,967,295"
abbrev pub max_events : ℕ
max_events = 4294967295

-- The last of a list of answers, oldest first
unfoldable pub last_answers : List ℕ → List ℕ
last_answers answers = drop (length answers - places) answers

-- "unused places are 0 and last"
abbrev pub in_places : List ℕ → List ℕ
in_places answers = answers ++ drop (length answers) (replicate places 0)

-- The journal of all answers so far: the paper's meaning
unfoldable pub journal_of : List ℕ → Journal
journal_of xs = record { answers = in_places (last_answers xs); count = min (length xs) max_events }

-- One answer more, for any journal value: into the first unused place, or behind the others without the oldest. That it
-- makes the journal of the longer list is `noted` (proofs/Notes.antt)
unfoldable pub note_of : Journal → ℕ → Journal
note_of j answer =
    record {
      answers =
          cond (ltb j.count places) (set j.answers j.count answer) (drop 1 j.answers ++ (answer ∷ []));
      count = min (j.count + 1) max_events;
    }

-- What a journal tells: answers in order, how many of the places are used, the count of all events
unfoldable pub told_of : Journal → Told
told_of j = record { answers = j.answers; used = min j.count places; count = j.count }
