-- Lists of events on a lent record. Document 01: "The first event gets the record the start handed back, each other
-- the one that the event before it handed back or left; nobody else writes it in between."
use Rattle.std.specs.Prelude.{List, [], ◌∷◌, ◌≡◌}
use Rattle.attempt.specs.Events.{Handed}
use Rattle.attempt.specs.Journaled.{journaled_step}
use Rattle.attempt.specs.declared.Attempt.{Attempt}

-- What the contract of `handle` says of the record that one event leaves, by the record that was there
abbrev pub LeftByOne : Attempt → Handed → Attempt → Type 0
LeftByOne was e left = left ≡ (journaled_step was e.event e.bytes).attempt

-- The same for the record that lies there after all events
unfoldable pub LeftByAll : Attempt → List Handed → Attempt → Type 0
LeftByAll was [] left = left ≡ was
LeftByAll was (e ∷ es) left = (next : Attempt) × LeftByOne was e next × LeftByAll next es left
