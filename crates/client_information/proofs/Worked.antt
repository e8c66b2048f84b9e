-- The client's call (document 02, C-18), computed: the client of P10 that attempts 3, whose own list is 3, 4; 37 and 47 on
-- either side of their borders. It meets the premises of the theorems on what is read of it.
use Prim.Native.Nat.{ℕ}
use mathlib.Core.List.{List, [], ◌∷◌}
use mathlib.Core.Path.{◌≡◌, refl}
use native.Mathlib.Omega.{arith}
use Rattle.refusals.specs.Reply.{Reply, Reply.answered, refuse}
use Rattle.refusals.specs.declared.Call.TheVariants.{Writing}
use Rattle.versions.specs.Pairs.{paired, pair_keeps_rule, each_pair_keeps_rule, pairs_keep_rule}
use Rattle.versions.specs.Table.{elem, entries_keep_rule, table_keeps_rule}
use Rattle.versions.specs.Version.{reserved, usable}
use Rattle.versions.specs.Words.{word_where, members}
use Rattle.lists.specs.Wire.{all_below, entries, list_bytes}
use Rattle.choosing.specs.Choice.{preferred}
use Rattle.invariants.specs.Header.{is_readable_negotiation}
use Rattle.information.specs.Information.{information_bytes}
use Rattle.information.specs.Laws.{ReadAs}
use Rattle.information.specs.declared.Sender.TheVariants.{Client}
use Rattle.attempt.specs.AsSent.{given_for, sent_from, list_as_sent, is_taken, each_given_keeps_rule, given_keep_rule}
use Rattle.attempt.specs.Attempt.{padded, own_of}
use Rattle.attempt.specs.Events.{Handed, journaled_run, Reachable}
use Rattle.attempt.specs.Journaled.{journaled_step}
use Rattle.attempt.specs.OwnList.{may_be_answered, word_of, word_for, rows_for}
use Rattle.attempt.specs.Start.{Input, input_of, start_of, opened}
use Rattle.attempt.specs.Step.{same, on_datagram, step_of}
use Rattle.attempt.specs.declared.Attempt.{Attempt}
use Rattle.attempt.specs.Event.{Event.Datagram}
use Rattle.client_information.specs.ClientInformation.{information_as_sent, client_information_of}
use Rattle.client_information.proofs.ReadAgain.{client-read}

-- P10: "table 3, 4, 1, 2, pairs 1 to 2 and 3 to 4, Original 1, packet 4, 3: attempts 3, own list 3, 4"
abbrev four : Input
four = input_of (3 ∷ 4 ∷ 1 ∷ 2 ∷ []) ((1 ∷ 2 ∷ []) ∷ (3 ∷ 4 ∷ []) ∷ []) [] 1 (0xAA ∷ 0xBB ∷ []) (0xCC ∷ [])

abbrev packet : Handed
packet =
    record {
      event = Datagram;
      bytes = 0x80 ∷ 0 ∷ 0 ∷ 0 ∷ 0 ∷ 1 ∷ 0xCC ∷ 2 ∷ 0xAA ∷ 0xBB ∷ list_bytes (4 ∷ 3 ∷ []);
    }

abbrev pub acted : Attempt
acted = journaled_run (start_of four).attempt (packet ∷ [])

pub acted-reachable : Reachable acted
unfolding paired pair_keeps_rule each_pair_keeps_rule pairs_keep_rule elem entries_keep_rule table_keeps_rule reserved usable
acted-reachable = record { input = four; accepted = refl; events = packet ∷ []; reached = refl }

-- 0x1A2A3A4A at the end, 0x0A0A0A0A between 3 and 4
abbrev pub two : List (List ℕ)
two = (0x1A2A3A4A ∷ 3 ∷ []) ∷ (0x0A0A0A0A ∷ 1 ∷ []) ∷ []

-- One number at a place, for so much room
abbrev one : ℕ → ℕ → ℕ → Reply (List ℕ)
one number place room = information_as_sent 3 (3 ∷ 4 ∷ []) ((number ∷ place ∷ []) ∷ []) room

pub record Calls : Type 0 where
  pub nothing : client_information_of acted [] 12 ≡ answered (information_bytes 3 (3 ∷ 4 ∷ []))
  pub with_two : client_information_of acted two 20 ≡ answered (information_bytes 3 (3 ∷ 0x0A0A0A0A ∷ 4 ∷ 0x1A2A3A4A ∷ []))
  -- 37 counts all that are given, and comes before 47
  pub no_room : client_information_of acted two 19 ≡ refuse Writing 37
  pub no-room-for-a-bad-one : one 0x0A0A0A0B 0 15 ≡ refuse Writing 37
  pub a-bad-one : one 0x0A0A0A0B 0 16 ≡ refuse Writing 47
  pub at-the-end : one 0x0A0A0A0A 2 16 ≡ answered (information_bytes 3 (3 ∷ 4 ∷ 0x0A0A0A0A ∷ []))
  pub past_the_end : one 0x0A0A0A0A 3 16 ≡ refuse Writing 47

pub calls : Calls
unfolding information_as_sent given_for sent_from list_as_sent is_taken each_given_keeps_rule given_keep_rule paired pair_keeps_rule
    each_pair_keeps_rule pairs_keep_rule preferred elem entries_keep_rule table_keeps_rule reserved usable entries list_bytes
    is_readable_negotiation padded own_of journaled_run journaled_step members word_where word_of word_for rows_for may_be_answered start_of opened step_of
    on_datagram same
calls =
    record {
      nothing = refl;
      with_two = refl;
      no_room = refl;
      no-room-for-a-bad-one = refl;
      a-bad-one = refl;
      at-the-end = refl;
      past_the_end = refl;
    }

-- It is read as a client's
pub two-read : ReadAs Client (information_bytes 3 (3 ∷ 0x0A0A0A0A ∷ 4 ∷ 0x1A2A3A4A ∷ [])) 3 (3 ∷ 0x0A0A0A0A ∷ 4 ∷ 0x1A2A3A4A ∷ [])
unfolding all_below information_as_sent given_for sent_from list_as_sent is_taken each_given_keeps_rule given_keep_rule paired pair_keeps_rule
    each_pair_keeps_rule pairs_keep_rule preferred elem entries_keep_rule table_keeps_rule reserved usable entries list_bytes
    is_readable_negotiation padded own_of journaled_run journaled_step members word_where word_of word_for rows_for may_be_answered start_of opened step_of
    on_datagram same
two-read =
    client-read acted two 20 (information_bytes 3 (3 ∷ 0x0A0A0A0A ∷ 4 ∷ 0x1A2A3A4A ∷ [])) acted-reachable calls.with_two
    (omega arith) refl
