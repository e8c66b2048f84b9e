-- Lists of events. Document 01: "The first event gets the record the start handed back, each other the one that the
-- event before it handed back or left; nobody else writes it in between."
use Rattle.std.specs.Prelude.{ℕ, true, List, [], ◌∷◌, ◌≡◌}
use Rattle.refusals.specs.Reply.{refusal_of}
use Rattle.attempt.specs.Journaled.{journaled_step}
use Rattle.attempt.specs.Start.{Input, is_accepted, start_of}
use Rattle.attempt.specs.Step.{step_of}
use Rattle.attempt.specs.declared.Attempt.{Attempt}
use Rattle.attempt.specs.Event.{Event}

-- An event with its bytes: the datagram, or the Version Information that is given
pub record Handed : Type 0 where
  pub event : Event
  pub bytes : List ℕ

-- The record after the events, by document 01's step alone
unfoldable pub run : Attempt → List Handed → Attempt
run a [] = a
run a (e ∷ es) = run (step_of a e.event e.bytes).attempt es

-- The record after the events, each of which is noted. But for the journal it is the same (`same-run`,
-- proofs/Unread.antt)
unfoldable pub journaled_run : Attempt → List Handed → Attempt
journaled_run a [] = a
journaled_run a (e ∷ es) = journaled_run (journaled_step a e.event e.bytes).attempt es

-- The numbers that the events were answered with, in order
unfoldable pub answers_to : Attempt → List Handed → List ℕ
answers_to a [] = []
answers_to a (e ∷ es) =
    let s = journaled_step a e.event e.bytes in
    refusal_of s.reply ∷ answers_to s.attempt es

-- "A record is what a start handed back, changed since by events alone: that is a step's one premise"
pub record Reachable (a : Attempt) : Type 0 where
  pub input : Input
  pub accepted : is_accepted input ≡ true
  pub events : List Handed
  pub reached : journaled_run (start_of input).attempt events ≡ a
