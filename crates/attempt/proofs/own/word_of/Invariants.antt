-- `word_of`: the rest of the table, with the rest of the words, answers for the whole.
use mathlib.Core.Path.{◌≡◌}
use lib.ListN.{length, drop}
use Rattle.attempt.specs.OwnList.{word_of}
use Rattle.attempt.proofs.own.word_of.Given as goal

abbrev pub invariant-loop-entry : goal.invariant-loop-entry
invariant-loop-entry l = word_of l.table l.rows l.version ≡ word_of (drop (length l.yielded) l.table) (drop (length l.yielded) l.rows) l.version
