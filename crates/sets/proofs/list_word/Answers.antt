-- What the table or the list is refused with, or the word.
use Rattle.sets.specs.Sets.{list_word}
use mathlib.Core.Path.{sym, ap, ◌∙◌}
use Rattle.refusals.specs.Reply.{Reply.answered}
use Rattle.sets.specs.Judging.{table_reply}
use Rattle.sets.proofs.Lowest.{handed-back, judge-refused, word-made}
use Rattle.sets.proofs.list_word.Goals as goal

pub returns-in_err-table : goal.returns-in_err-table
unfolding list_word
returns-in_err-table g c =
    handed-back c.from_residual.result c.in_err-table.field-0.0 c.from_residual.ensures.1 ∙
    judge-refused _ _ _ _ (sym (ap table_reply c.in_err-table.was) ∙ c.judge.ensures)

pub returns : goal.returns
returns g c = ap answered c.word_in.ensures ∙ word-made _ _ _ (sym (ap table_reply c.in_ok-table.was) ∙ c.judge.ensures)
