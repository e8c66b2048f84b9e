-- `step_record` meets its contract: the verdict, applied field by field, and noted.
use Rattle.c_record.proofs.events.step_record.Goals as goal

pub returns : goal.returns
returns c = rw (
  c.from-refusal.ensures,
  c.number_of.ensures,
  c.value_after-number.ensures,
  c.mark_after-mark.ensures,
  c.heard_after-heard.ensures,
  c.acted_after-acted.ensures,
  c.attempted_after-attempted.ensures,
  c.journal_after-journal.ensures,
)
    c.judge_record-verdict.ensures
