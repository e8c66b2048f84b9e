-- What the table or the list is refused with, or the choice by the word.
use Rattle.choosing.specs.Choice.{choose}
use mathlib.Core.Path.{sym, ap, ◌∙◌}
use Rattle.sets.specs.Judging.{table_reply}
use Rattle.sets.proofs.Lowest.{handed-back, judge-refused, chosen-by-word}
use Rattle.sets.proofs.choose_by_word.Goals as goal

pub returns-in_err-table : goal.returns-in_err-table
unfolding choose
returns-in_err-table g c =
    handed-back c.from_residual.result c.in_err-table.field-0.0 c.from_residual.ensures.1 ∙
    judge-refused _ _ _ _ (sym (ap table_reply c.in_err-table.was) ∙ c.judge.ensures)

pub returns : goal.returns
returns g c = c.at_lowest.ensures ∙ rw c.word_in.ensures (chosen-by-word _ _ _ (sym (ap table_reply c.in_ok-table.was) ∙ c.judge.ensures))
