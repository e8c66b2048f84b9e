-- P1 to P12 of document 01 as one checked list, computed over the definitions that the contracts cite.
-- "Connection IDs match throughout; there are no pairs unless named." The two IDs differ in value and length.
use Prim.Native.Nat.{ℕ, suc}
use mathlib.Core.List.{List, [], ◌∷◌, ◌++◌, map}
use mathlib.Core.Path.{◌≡◌, refl, ap, ◌∙◌}
use lib.ListN.{length, replicate}
use Rattle.refusals.specs.Close.{close_of, code_in}
use Rattle.refusals.specs.Reply.{Reply, Reply.answered, refuse}
use Rattle.refusals.specs.Table.{table}
use Rattle.refusals.specs.declared.Call.TheVariants.{Reading}
use Rattle.choosing.specs.Choice.{choose, preferred}
use Rattle.versions.specs.Pairs.{paired, pair_keeps_rule, each_pair_keeps_rule, pairs_keep_rule}
use Rattle.versions.specs.Table.{elem, entries_keep_rule, table_keeps_rule}
use Rattle.versions.specs.Version.{reserved, usable}
use Rattle.versions.specs.Words.{entries_where, word_where, members}
use Rattle.lists.specs.Wire.{entries, list_bytes}
use Rattle.invariants.specs.Header.{is_readable_negotiation}
use Rattle.journal.specs.Journals.{last_answers, journal_of, note_of}
use Rattle.journal.proofs.Notes.{journal}
use Rattle.information.specs.Information.{information_bytes}
use Rattle.information.specs.Presence.{Presence.Missing, Presence.Given}
use Rattle.attempt.specs.Attempt.{padded, own_of, closed_with, is_completed}
use Rattle.attempt.specs.Demand.{acted_with, first_outcome, CompletedAgainst, JournaledCompletedAgainst}
use Rattle.attempt.specs.Events.{Handed, run, journaled_run}
use Rattle.attempt.specs.Journaled.{journaled_step, journaled_step_of_any}
use Rattle.attempt.specs.Limits.{max_id, not_a_record}
use Rattle.attempt.specs.OwnList.{own_list, word_of, word_for, rows_for, may_be_answered}
use Rattle.attempt.specs.Start.{Input, input_of, start_of, opened, blank}
use Rattle.attempt.specs.Step.{Effect, Effect.acts, Effect.completes, unchanged, step_of, on_datagram, on_processed, on_outcome, same}
use Rattle.attempt.specs.declared.Attempt.{Attempt}
use Rattle.attempt.specs.declared.End.{End}
use Rattle.attempt.specs.declared.End.TheVariants.{Completed, Open}
use Rattle.attempt.specs.Event.{Event.Datagram, Event.PacketProcessed, Event.Outcome}
use Rattle.attempt.proofs.Unread.{same_end}

-- What a case shows: a choice from a list, or the answers to the events with the record after them
data Shown : Type 0 where
  chose : Reply ℕ → Shown
  went : List (Reply Effect) → (attempted : ℕ) → (own : List ℕ) → End → Shown

-- A case: its name's number, what the definitions compute, and what document 01 says
data Case : Type 0 where
  p : ℕ → Shown → Shown → Case

computed : Case → Shown
computed (p n c e) = c

expected : Case → Shown
expected (p n c e) = e

our_destination : List ℕ
our_destination = 0xaa ∷ 0xbb ∷ []

our_source : List ℕ
our_source = 0xcc ∷ []

-- A start with a table, pairs, barred pairs and an Original Version; and one with nothing barred
barring : List ℕ → List (List ℕ) → List (List ℕ) → ℕ → Input
barring t ps bs v = input_of t ps bs v our_destination our_source

start : List ℕ → List (List ℕ) → ℕ → Input
start t ps v = barring t ps [] v

-- A Version Negotiation packet with matching connection IDs that lists these versions
packet : List ℕ → Handed
packet vs =
    record {
      event = Datagram;
      bytes =
          (0xc0 ∷ 0 ∷ 0 ∷ 0 ∷ 0 ∷ (length our_source ∷ our_source)) ++
          ((length our_destination ∷ our_destination) ++ list_bytes vs);
    }

-- An outcome with the version in use, Chosen and Available
outcome : ℕ → ℕ → List ℕ → Handed
outcome in_use chosen available =
    record { event = Outcome in_use Given; bytes = information_bytes chosen available }

missing : ℕ → Handed
missing in_use = record { event = Outcome in_use Missing; bytes = [] }

answers : Attempt → List Handed → List (Reply Effect)
answers a [] = []
answers a (e ∷ es) =
    (journaled_step a e.event e.bytes).reply ∷ answers (journaled_step a e.event e.bytes).attempt es

attempt : Input → List Handed → Shown
attempt x es =
    let a : Attempt = (start_of x).attempt in
    let b : Attempt = journaled_run a es in
    went (answers a es) b.attempted (own_of b) b.end

three : List ℕ
three = 14 ∷ 12 ∷ 10 ∷ []

four : Input
four = start (3 ∷ 4 ∷ 1 ∷ 2 ∷ []) ((1 ∷ 2 ∷ []) ∷ (3 ∷ 4 ∷ []) ∷ []) 1

cases : List Case
cases =
    p 1 (chose (choose three (10 ∷ 13 ∷ 14 ∷ []))) (chose (answered 14)) ∷
    p 2 (chose (choose three [])) (chose (refuse Reading 42)) ∷
    p 3 (chose (choose three (13 ∷ 0x1a2a3a4a ∷ []))) (chose (refuse Reading 42)) ∷
    p 4
    (attempt (start three [] 12) (packet (10 ∷ 13 ∷ 14 ∷ []) ∷ outcome 14 14 (13 ∷ 14 ∷ []) ∷ []))
    (went (answered (acts 14) ∷ answered (completes 14) ∷ []) 14 (14 ∷ []) (Completed 14)) ∷
    p 5
    (attempt (start three [] 12) (packet (10 ∷ 13 ∷ []) ∷ outcome 10 10 (10 ∷ 13 ∷ 14 ∷ []) ∷ []))
    (went (answered (acts 10) ∷ refuse Reading 75 ∷ []) 10 (10 ∷ []) (closed_with 75)) ∷
    p 6
    (attempt (start three [] 12) (packet (10 ∷ 13 ∷ 14 ∷ []) ∷ outcome 14 14 [] ∷ []))
    (went (answered (acts 14) ∷ refuse Reading 74 ∷ []) 14 (14 ∷ []) (closed_with 74)) ∷
    p 7
    (attempt (start three [] 12) (packet (12 ∷ 14 ∷ []) ∷ []))
    (went (refuse Reading 64 ∷ []) 12 (12 ∷ []) Open) ∷
    p 8
    (attempt (start (14 ∷ 1 ∷ []) [] 14) (packet (1 ∷ []) ∷ missing 1 ∷ []))
    (went (answered (acts 1) ∷ answered (completes 1) ∷ []) 1 (1 ∷ []) (Completed 1)) ∷
    p 9
    (attempt (start (14 ∷ 10 ∷ []) [] 14) (packet (10 ∷ []) ∷ missing 10 ∷ []))
    (went (answered (acts 10) ∷ refuse Reading 71 ∷ []) 10 (10 ∷ []) (closed_with 71)) ∷
    p 10
    (attempt four (packet (4 ∷ 3 ∷ []) ∷ outcome 4 4 (4 ∷ 3 ∷ []) ∷ []))
    (went (answered (acts 3) ∷ answered (completes 4) ∷ []) 3 (3 ∷ 4 ∷ []) (Completed 4)) ∷
    p 11
    (attempt four (packet (4 ∷ 3 ∷ []) ∷ outcome 4 4 (4 ∷ []) ∷ []))
    (went (answered (acts 3) ∷ refuse Reading 75 ∷ []) 3 (3 ∷ 4 ∷ []) (closed_with 75)) ∷
    p 12
    (attempt four (packet (4 ∷ 3 ∷ []) ∷ outcome 2 2 (4 ∷ 3 ∷ []) ∷ []))
    (went (answered (acts 3) ∷ refuse Reading 72 ∷ []) 3 (3 ∷ 4 ∷ []) (closed_with 72)) ∷
    []

-- P4 with refused events around: a datagram that is no Version Negotiation packet (61), one for another connection (63:
-- its IDs are not swapped), one that lists the Original Version (64), a second packet after the act (62), and events
-- after the end (62)
mixed : List Handed
mixed =
    record { event = Datagram; bytes = 0x40 ∷ [] } ∷
    record {
      event = Datagram;
      bytes =
          (0xc0 ∷ 0 ∷ 0 ∷ 0 ∷ 0 ∷ (length our_destination ∷ our_destination)) ++
          ((length our_source ∷ our_source) ++ list_bytes (10 ∷ []));
    } ∷
    packet (12 ∷ 14 ∷ []) ∷
    packet (10 ∷ 13 ∷ 14 ∷ []) ∷
    packet (10 ∷ []) ∷
    outcome 14 14 (13 ∷ 14 ∷ []) ∷
    outcome 10 10 (10 ∷ []) ∷
    record { event = PacketProcessed; bytes = [] } ∷
    []

refusals : List (Reply Effect)
refusals =
    refuse Reading 61 ∷
    refuse Reading 63 ∷
    refuse Reading 64 ∷
    answered (acts 14) ∷
    refuse Reading 62 ∷
    answered (completes 14) ∷
    refuse Reading 62 ∷
    refuse Reading 62 ∷
    []

-- Each case computes to what document 01 says
P1-to-P12 : map computed cases ≡ map expected cases
unfolding computed expected our_destination our_source barring start packet outcome missing answers attempt three four cases
    close_of code_in table choose preferred paired pair_keeps_rule each_pair_keeps_rule pairs_keep_rule elem entries_keep_rule
    table_keeps_rule reserved usable entries list_bytes is_readable_negotiation padded own_of journaled_run journaled_step members word_where word_of word_for
    rows_for may_be_answered start_of opened blank step_of on_datagram on_processed on_outcome same
P1-to-P12 = refl

mixed-answers : answers (start_of (start three [] 12)).attempt mixed ≡ refusals
unfolding mixed refusals computed expected our_destination our_source barring start packet outcome missing answers attempt three
    four cases close_of code_in table choose preferred paired pair_keeps_rule each_pair_keeps_rule pairs_keep_rule elem
    entries_keep_rule table_keeps_rule reserved usable entries list_bytes is_readable_negotiation padded own_of journaled_run journaled_step members
    word_where word_of word_for rows_for may_be_answered start_of opened blank step_of on_datagram on_processed on_outcome same
mixed-answers = refl

-- Starts with several faults. "Each refusal .. names one cause": 41, 43, 44, 45, the lowest that applies
faulty : List Input
faulty =
    let long : List ℕ = replicate (suc max_id) 0 in
    let loop : List (List ℕ) = (1 ∷ 1 ∷ []) ∷ [] in
    input_of [] loop loop 7 long long ∷
    input_of three loop [] 7 long long ∷
    input_of three [] loop 7 long long ∷
    input_of three [] [] 7 long long ∷
    input_of three [] [] 12 our_destination long ∷
    []

starts-lowest-first : map (λ (x : Input). (start_of x).reply) faulty ≡ map (refuse Reading) (41 ∷ 43 ∷ 43 ∷ 44 ∷ 45 ∷ [])
unfolding faulty our_destination three close_of code_in table paired pair_keeps_rule each_pair_keeps_rule pairs_keep_rule elem
    entries_keep_rule table_keeps_rule reserved usable start_of
starts-lowest-first = refl

-- "Pairs are neither turned round nor chained."
chain : List (List ℕ)
chain = (1 ∷ 2 ∷ []) ∷ (2 ∷ 3 ∷ []) ∷ []

own-lists-of-a-chain : map (own_list (1 ∷ 2 ∷ 3 ∷ []) chain []) (1 ∷ 2 ∷ 3 ∷ []) ≡ (1 ∷ 2 ∷ []) ∷ (2 ∷ 3 ∷ []) ∷ (3 ∷ []) ∷ []
unfolding chain entries_where own_list may_be_answered paired
own-lists-of-a-chain = refl

-- C-17. P10 with pairs barred: its packet, then an outcome with Chosen 4
ten-barring : List (List ℕ) → Shown
ten-barring bs =
    attempt (barring (3 ∷ 4 ∷ 1 ∷ 2 ∷ []) ((1 ∷ 2 ∷ []) ∷ (3 ∷ 4 ∷ []) ∷ []) bs 1)
    (packet (4 ∷ 3 ∷ []) ∷ outcome 4 4 (4 ∷ 3 ∷ []) ∷ [])

-- 3 to 4 is barred: the own list is 3, and Chosen 4 is a 72
ten-left-out : Shown
ten-left-out = went (answered (acts 3) ∷ refuse Reading 72 ∷ []) 3 (3 ∷ []) (closed_with 72)

-- It stands with nothing barred. It stands with 3 to 4 turned round; with 4 barred from 1, the Original Version; with 3 to
-- 1 and 1 to 4, which make no 3 to 4; and with a pair that is not there. A repeated pair bars as it does alone
P10-barred :
    map ten-barring
    ([] ∷
    ((4 ∷ 3 ∷ []) ∷ []) ∷
    ((1 ∷ 4 ∷ []) ∷ []) ∷
    ((3 ∷ 1 ∷ []) ∷ (1 ∷ 4 ∷ []) ∷ []) ∷
    ((3 ∷ 2 ∷ []) ∷ []) ∷
    ((3 ∷ 4 ∷ []) ∷ []) ∷
    ((3 ∷ 4 ∷ []) ∷ (1 ∷ 2 ∷ []) ∷ (3 ∷ 4 ∷ []) ∷ []) ∷
    [])
    ≡
    replicate 5 (went (answered (acts 3) ∷ answered (completes 4) ∷ []) 3 (3 ∷ 4 ∷ []) (Completed 4)) ++
    replicate 2 ten-left-out
unfolding ten-barring ten-left-out our_destination our_source barring packet outcome answers attempt close_of code_in table
    preferred paired pair_keeps_rule each_pair_keeps_rule pairs_keep_rule elem entries_keep_rule table_keeps_rule reserved usable
    entries list_bytes is_readable_negotiation padded own_of journaled_run journaled_step members word_where word_of word_for rows_for may_be_answered start_of
    opened step_of on_datagram on_outcome same
P10-barred = refl

-- The own lists of its four versions with 3 to 4 barred, and with 1 to 2
own-lists-barred :
    map
    (λ (bs : List (List ℕ)). map (own_list (3 ∷ 4 ∷ 1 ∷ 2 ∷ []) ((1 ∷ 2 ∷ []) ∷ (3 ∷ 4 ∷ []) ∷ []) bs) (3 ∷ 4 ∷ 1 ∷ 2 ∷ []))
    (((3 ∷ 4 ∷ []) ∷ []) ∷ ((1 ∷ 2 ∷ []) ∷ []) ∷ [])
    ≡
    ((3 ∷ []) ∷ (4 ∷ []) ∷ (1 ∷ 2 ∷ []) ∷ (2 ∷ []) ∷ []) ∷
    ((3 ∷ 4 ∷ []) ∷ (4 ∷ []) ∷ (1 ∷ []) ∷ (2 ∷ []) ∷ []) ∷
    []
unfolding entries_where own_list may_be_answered paired
own-lists-barred = refl

-- Missing information: "one that never acted completes if the version in use is the attempted one, else 73"
never-acted : map (λ (e : Handed). answers (start_of (start three [] 12)).attempt (e ∷ [])) (missing 12 ∷ missing 1 ∷ [])
    ≡ (answered (completes 12) ∷ []) ∷ (refuse Reading 73 ∷ []) ∷ []
unfolding our_destination our_source barring start missing answers three close_of code_in table each_pair_keeps_rule pairs_keep_rule
    elem entries_keep_rule table_keeps_rule reserved usable padded own_of journaled_step members word_where word_of word_for rows_for may_be_answered
    start_of opened step_of on_outcome
never-acted = refl

-- The premises of demand 3 and of its corollary can be met
witness : CompletedAgainst (13 ∷ 14 ∷ []) (start three [] 12) mixed 14
unfolding mixed acted_with first_outcome computed expected our_destination our_source barring start packet outcome missing answers
    attempt three four cases close_of code_in table choose preferred paired pair_keeps_rule each_pair_keeps_rule
    pairs_keep_rule elem entries_keep_rule table_keeps_rule reserved usable entries list_bytes is_readable_negotiation padded
    own_of run journaled_run journaled_step members word_where word_of word_for rows_for may_be_answered start_of opened blank step_of on_datagram on_processed
    on_outcome same
witness =
    record {
      accepted = refl;
      acted = refl;
      completed = refl;
      handshake = record { in_use = 14; presence = Given; bytes = information_bytes 14 (13 ∷ 14 ∷ []) };
      first = refl;
      information = record { chosen = 14; available = 13 ∷ 14 ∷ [] };
      read = refl;
      against = refl;
      holds_version_in_use = refl;
    }

-- The same over the steps that note (document 02, C-20)
witness-journaled : JournaledCompletedAgainst (13 ∷ 14 ∷ []) (start three [] 12) mixed 14
witness-journaled = record {
  accepted = witness.accepted;
  acted = witness.acted;
  completed = ap is_completed (same_end (start_of (start three [] 12)).attempt mixed) ∙ witness.completed;
  handshake = witness.handshake;
  first = witness.first;
  information = witness.information;
  read = witness.read;
  against = witness.against;
  holds_version_in_use = witness.holds_version_in_use;
}

-- Its journal: every event is in it, those answered 61 to 64 and those after the end too. With two events more the two
-- oldest answers are gone
journals-of-mixed :
    map (λ (more : List Handed). (journaled_run (start_of (start three [] 12)).attempt (mixed ++ more)).journal)
    ([] ∷ (record { event = PacketProcessed; bytes = [] } ∷ record { event = Datagram; bytes = 0x40 ∷ [] } ∷ []) ∷ [])
    ≡
    journal (61 ∷ 63 ∷ 64 ∷ 0 ∷ 62 ∷ 0 ∷ 62 ∷ 62 ∷ []) 8 ∷
    journal (64 ∷ 0 ∷ 62 ∷ 0 ∷ 62 ∷ 62 ∷ 62 ∷ 61 ∷ []) 10 ∷
    []
unfolding mixed our_destination our_source barring start packet outcome three preferred paired pair_keeps_rule each_pair_keeps_rule
    pairs_keep_rule elem entries_keep_rule table_keeps_rule reserved usable entries list_bytes is_readable_negotiation padded
    own_of journaled_run journaled_step note_of journal_of last_answers members word_where word_of word_for rows_for may_be_answered start_of
    opened step_of on_datagram on_processed on_outcome same
journals-of-mixed = refl

-- On the record of a refused start nothing is noted
nothing-noted : journaled_step_of_any blank PacketProcessed [] ≡ unchanged blank not_a_record
unfolding journaled_step_of_any blank elem
nothing-noted = refl
