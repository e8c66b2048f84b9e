-- `is_member`: the rest of the table, with the rest of the word, answers for the whole.
use mathlib.Core.Path.{◌≡◌}
use lib.ListN.{drop}
use Rattle.versions.specs.Table.{elem}
use Rattle.versions.specs.Words.{members}
use Rattle.attempt.proofs.own.is_member.Given as goal

abbrev pub invariant-loop-entry : goal.invariant-loop-entry
invariant-loop-entry l = elem l.version (members l.word l.table) ≡ elem l.version (members l.rest (drop l.entry-index l.table))
