-- `with_answer` meets its contract: place by place.
use mathlib.Core.Path.{◌≡◌}
use lib.ListN.{length}
use borrow.Author.Rules.{rules}
use Rattle.journal.specs.Journals.{places}
use Rattle.journal.proofs.Notes.{placed}
use Rattle.journal.proofs.with_answer.Goals.{Start}
use Rattle.journal.proofs.with_answer.Goals as goal

-- the array that is handed in has all places
whole : (c : Start) → length c.args.old ≡ places
whole c = search rules

pub returns : goal.returns
returns c = let args = c.args in
    rw (
      c.one_of-first.ensures,
      c.one_of-second.ensures,
      c.one_of-third.ensures,
      c.one_of-fourth.ensures,
      c.one_of-fifth.ensures,
      c.one_of-sixth.ensures,
      c.one_of-seventh.ensures,
      c.one_of-eighth.ensures,
    )
    (placed args.old args.place args.answer (whole (goal.at.returns c).Start))
