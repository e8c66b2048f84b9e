-- Answers as numbers. A refusal is its number, 0 is none; a value goes into a lent number, which a refusal leaves.
use Rattle.std.specs.Prelude.{ℕ, cond, List, [], ◌∷◌, eqb}
use Rattle.std.specs.Prelude.{Option, None, Some}
use Rattle.refusals.specs.Close.{close_of}
use Rattle.refusals.specs.Reply.{Reply, Reply.refused, Reply.answered, refusal_of}
use Rattle.refusals.specs.declared.Call.{Call}
use Rattle.refusals.specs.declared.Call.TheVariants.{Reading, Writing}
use Rattle.invariants.specs.Header.{Form, Form.long, Form.short, Form.version_negotiation}
use Rattle.information.specs.Information.{Found, read_information, information_to_write}
use Rattle.information.specs.Presence.{Presence, Presence.Missing, Presence.Given}
use Rattle.information.specs.declared.Sender.{Sender}
use Rattle.information.specs.declared.Sender.TheVariants.{Client, Server}
use Rattle.server.specs.FirstFlight.{Act, Act.negotiate, Act.use-version, decide}
use Rattle.both_ends.specs.Configuration.{Part, Part.accepted-not-offered, Part.offered-not-accepted, Part.offered-not-readable}
use Rattle.both_ends.specs.Configuration.{Part.available-not-offered, Part.offered-not-available, Verdict, Verdict.safe, Verdict.broken}
use Rattle.journal.specs.Journals.{told_of}
use Rattle.journal.specs.declared.Told.{Told}
use Rattle.attempt.specs.Attempt.{own_of}
use Rattle.c_record.specs.Numbers.{not_valid}
use Rattle.c_record.specs.Records.{is_record, attempt_of}
use Rattle.c_record.specs.declared.Record.{Record}

abbrev pub close_number : Option ℕ → ℕ
close_number None = 0
close_number (Some code) = code

-- What a function returns for an answer: the number of its refusal, 0 where there is none
abbrev pub returned : {A : Type 0} → Reply A → ℕ
returned reply = refusal_of reply

-- What a lent number holds after an answer: what is read off its value, or, after a refusal, what it held
abbrev pub leaving : {A : Type 0} → (A → ℕ) → Reply A → ℕ → ℕ
leaving value (refused n c) found = found
leaving value (answered a) found = value a

abbrev pub itself : ℕ → ℕ
itself n = n

abbrev pub is_there : Option ℕ → ℕ
is_there None = 0
is_there (Some v) = 1

abbrev pub value_or : Option ℕ → ℕ → ℕ
value_or None found = found
value_or (Some v) found = v

-- Forms: 1 long, 2 short, 3 Version Negotiation
abbrev pub form_number : Form → ℕ
form_number (long v d s r) = 1
form_number (short d r) = 2
form_number (version_negotiation d s l) = 3

-- The version of a form, 0 where it has none
abbrev pub form_version : Form → ℕ
form_version (long v d s r) = v
form_version (short d r) = 0
form_version (version_negotiation d s l) = 0

-- Where the destination ID, the source ID and the rest lie: start and end of each; a short form has no source ID
abbrev pub form_places : Form → List ℕ
form_places (long v d s r) = d.start ∷ d.end ∷ s.start ∷ s.end ∷ r.start ∷ r.end ∷ []
form_places (short d r) = d.start ∷ d.end ∷ 0 ∷ 0 ∷ r.start ∷ r.end ∷ []
form_places (version_negotiation d s l) = d.start ∷ d.end ∷ s.start ∷ s.end ∷ l.start ∷ l.end ∷ []

-- What the lent places of a header hold after an answer
abbrev pub leaving_places : Reply Form → List ℕ → List ℕ
leaving_places (refused n c) found = found
leaving_places (answered form) found = form_places form

-- Kinds by number: 0 names the first, 1 the second, another number none
unfoldable pub named : {K : Type 0} → K → K → ℕ → Option K
named first second n = cond (eqb n 0) (Some first) (cond (eqb n 1) (Some second) None)

-- Senders: 0 a client, 1 a server
abbrev pub sender_of : ℕ → Option Sender
sender_of n = named Client Server n

-- Whether Version Information is given: 0 missing, 1 given
abbrev pub presence_of : ℕ → Option Presence
presence_of n = named Missing Given n

-- Kinds of call: 0 one that reads (a reader, the server's choice, an event), 1 a writer
abbrev pub call_of : ℕ → Option Call
call_of n = named Reading Writing n

-- The code for an unknown kind of call: no code has this number
abbrev pub unknown_call : ℕ
unknown_call = 0xffffffffffffffff

-- The close code by a refusal's number and the kind of call
abbrev pub code_for : ℕ → Option Call → ℕ
code_for refusal None = unknown_call
code_for refusal (Some call) = close_number (close_of refusal call)

-- An answer for a kind that is known, 255 for one that is not
abbrev pub for_known : {K A : Type 0} → (K → Reply A) → Option K → Reply A
for_known answer None = refused not_valid None
for_known answer (Some k) = answer k

-- The calls whose sender or presence is a number
abbrev pub read_information_of : ℕ → List ℕ → Reply Found
read_information_of sender bytes = for_known (λ s. read_information s bytes) (sender_of sender)

abbrev pub information_to_write_of : ℕ → ℕ → List ℕ → ℕ → Reply (List ℕ)
information_to_write_of sender chosen available room =
    for_known (λ s. information_to_write s chosen available room) (sender_of sender)

abbrev pub decide_on : List ℕ → List ℕ → List (List ℕ) → List ℕ → ℕ → ℕ → List ℕ → Reply Act
decide_on readable accepted pairs barred version presence information =
    for_known (λ p. decide readable accepted pairs barred version p information) (presence_of presence)

-- The own list of a record's attempt, 255 for a record that could not be an attempt's (`is_record`)
abbrev pub own_answer : Record → Reply (List ℕ)
own_answer r = cond (is_record r) (answered (own_of (attempt_of r))) (refused not_valid None)

-- What the journal of a record's attempt tells (document 02, C-20), 255 for a record that could not be an attempt's
abbrev pub journal_answer : Record → Reply Told
journal_answer r = cond (is_record r) (answered (told_of r.journal)) (refused not_valid None)

-- What the lent places of its answers hold after it
abbrev pub leaving_answers : Reply Told → List ℕ → List ℕ
leaving_answers (refused n c) found = found
leaving_answers (answered told) found = told.answers

abbrev pub used_told : Told → ℕ
used_told told = told.used

abbrev pub count_told : Told → ℕ
count_told told = told.count

abbrev pub chosen_in : Found → ℕ
chosen_in found = found.chosen

abbrev pub start_in : Found → ℕ
start_in found = found.available.start

abbrev pub end_in : Found → ℕ
end_in found = found.available.end

-- What the server does, as a version: 0 to negotiate
abbrev pub act_number : Act → ℕ
act_number negotiate = 0
act_number (use-version v) = v

-- The parts of the safe rule, in their order
abbrev pub part_number : Part → ℕ
part_number accepted-not-offered = 1
part_number offered-not-accepted = 2
part_number offered-not-readable = 3
part_number available-not-offered = 4
part_number offered-not-available = 5

-- The part that is broken, 0 where none is
abbrev pub part_in : Verdict → ℕ
part_in safe = 0
part_in (broken part v) = part_number part

-- The version that breaks it, 0 where none does. Of an Available list it can be 0 too: the part tells
abbrev pub version_in : Verdict → ℕ
version_in safe = 0
version_in (broken part v) = v
