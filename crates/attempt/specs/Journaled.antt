-- What happened to an attempt. Document 02, C-20: "The attempt's record shall also hold the last eight event answers, ..
-- and the count of all events, .. Every event adds one, those answered 61 to 64 too. So 'unchanged' and 'alone' in
-- document 01 leave this journal out." The noting is a layer over the step (Step.antt), which neither reads nor changes
-- the journal.
use Rattle.std.specs.Prelude.{ℕ, cond, List, eqb}
use Rattle.refusals.specs.Reply.{refusal_of}
use Rattle.journal.specs.Journals.{note_of}
use Rattle.attempt.specs.Attempt.{with_journal}
use Rattle.attempt.specs.Limits.{not_a_record}
use Rattle.attempt.specs.Step.{After, step_of, could_be_attempt, unchanged}
use Rattle.attempt.specs.declared.Attempt.{Attempt}
use Rattle.attempt.specs.Event.{Event}

-- What an event did, then its answer is noted: the number of its refusal, "0: no refusal" (`refusal_of`)
abbrev pub journaled : After → After
journaled s =
    record {
      attempt = with_journal s.attempt (note_of s.attempt.journal (refusal_of s.reply));
      reply = s.reply;
    }

-- One event on an attempt
unfoldable pub journaled_step : Attempt → Event → List ℕ → After
journaled_step a event bytes = journaled (step_of a event bytes)

-- The same where the record may be any value: the number outside document 01 is no answer of an event, and is not noted
abbrev pub journaled_any : After → After
journaled_any s = cond (eqb (refusal_of s.reply) not_a_record) s (journaled s)

-- One event on any record value. What gets the number outside document 01 is no event of an attempt: nothing is noted,
-- and the record is left as found
unfoldable pub journaled_step_of_any : Attempt → Event → List ℕ → After
journaled_step_of_any a event bytes = cond (could_be_attempt a) (journaled_step a event bytes) (unchanged a not_a_record)
