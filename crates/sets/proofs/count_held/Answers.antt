-- What the table or the list is refused with, or how many bits of the word are set.
use Rattle.sets.specs.Sets.{count_held}
use mathlib.Core.Path.{sym, ap, ◌∙◌}
use lib.Count.{ones}
use Rattle.refusals.specs.Reply.{Reply.answered}
use Rattle.sets.specs.Judging.{table_reply}
use Rattle.sets.proofs.Lowest.{handed-back, judge-refused, counted-by-word}
use Rattle.sets.proofs.count_held.Goals as goal

pub returns-in_err-table : goal.returns-in_err-table
unfolding count_held
returns-in_err-table g c =
    handed-back c.from_residual.result c.in_err-table.field-0.0 c.from_residual.ensures.1 ∙
    judge-refused _ _ _ _ (sym (ap table_reply c.in_err-table.was) ∙ c.judge.ensures)

pub returns : goal.returns
returns g c = ap answered (ap ones c.word_in.ensures) ∙ counted-by-word _ _ _ (sym (ap table_reply c.in_ok-table.was) ∙ c.judge.ensures)
