-- Each part of the safe rule is needed, and so are the premises of the theorems: the smallest configurations without one, computed.
-- What the test of the configuration finds is computed too: it is that part, and no other.
use Prim.Native.Nat.{ℕ}
use mathlib.Core.Bool.{true}
use mathlib.Core.List.{List, [], ◌∷◌}
use Rattle.std.specs.Prelude.{Some}
use mathlib.Core.Path.{◌≡◌, refl}
use Rattle.refusals.specs.Reply.{Reply.answered}
use Rattle.versions.specs.Pairs.{paired, pair_keeps_rule, each_pair_keeps_rule, pairs_keep_rule}
use Rattle.versions.specs.Reserved.{each_reserved, reserved_keep_rule}
use Rattle.versions.specs.Table.{elem, entries_keep_rule, table_keeps_rule}
use Rattle.versions.specs.Version.{reserved, usable}
use Rattle.versions.specs.Words.{word_where, members}
use Rattle.lists.specs.Wire.{entries, list_bytes}
use Rattle.choosing.specs.Choice.{preferred}
use Rattle.invariants.specs.Header.{is_readable_negotiation}
use Rattle.negotiation.specs.Packet.{packet_for, negotiation_packet}
use Rattle.information.specs.Information.{information_bytes}
use Rattle.information.specs.Presence.{Presence.Missing, Presence.Given}
use Rattle.server.specs.FirstFlight.{may_use, first_accepted, decide}
use Rattle.attempt.specs.AsSent.{given_for, sent_from, list_as_sent, each_given_keeps_rule, given_keep_rule}
use Rattle.attempt.specs.Attempt.{padded, own_of}
use Rattle.attempt.specs.Events.{Handed, journaled_run}
use Rattle.attempt.specs.Journaled.{journaled_step}
use Rattle.attempt.specs.OwnList.{may_be_answered, word_of, word_for, rows_for}
use Rattle.attempt.specs.Start.{Input, input_of, start_of, opened}
use Rattle.attempt.specs.Step.{Effect.completes, same, on_datagram, on_outcome, step_of}
use Rattle.attempt.specs.declared.Attempt.{Attempt}
use Rattle.attempt.specs.Event.{Event.Datagram, Event.Outcome}
use Rattle.client_information.specs.ClientInformation.{information_as_sent}
use Rattle.both_ends.specs.Configuration.{Configuration, configuration_of, within, keeps_safe_rule, is_safe}
use Rattle.both_ends.specs.Configuration.{Part.accepted-not-offered, Part.offered-not-accepted, Part.offered-not-readable}
use Rattle.both_ends.specs.Configuration.{Part.available-not-offered, Part.offered-not-available, Verdict.broken}
use Rattle.both_ends.specs.Configuration.{judged_configuration}
use Rattle.both_ends.proofs.Course.{Course.negotiated-again, Course.closed-with, Course.completed-with, course_with, honest_course}

-- A client with nothing barred; the IDs differ in value and length
abbrev client : List ℕ → List (List ℕ) → ℕ → Input
client table pairs original = input_of table pairs [] original (0xAA ∷ 0xBB ∷ []) (0xCC ∷ [])

-- ---- an honest exchange

-- Accepted but not offered: a pair leads to a version that the packet did not list
abbrev more-accepted : Configuration
more-accepted = configuration_of (0x6b3343cf ∷ 1 ∷ []) (0x6b3343cf ∷ 1 ∷ []) (1 ∷ []) (1 ∷ []) ((1 ∷ 0x6b3343cf ∷ []) ∷ [])

-- Offered but not accepted
abbrev more-offered : Configuration
more-offered = configuration_of (1 ∷ 2 ∷ []) (1 ∷ []) (1 ∷ 2 ∷ []) (1 ∷ 2 ∷ []) []

-- Offered but not readable
abbrev not-readable : Configuration
not-readable = configuration_of (1 ∷ []) (2 ∷ []) (2 ∷ []) (2 ∷ []) []

-- Available with more than is offered
abbrev more-available : Configuration
more-available = configuration_of (1 ∷ []) (1 ∷ []) (1 ∷ []) (1 ∷ 2 ∷ []) []

-- Available with less, in the shape of P11; and empty
abbrev less-available : Configuration
less-available = configuration_of (4 ∷ 3 ∷ []) (4 ∷ 3 ∷ []) (4 ∷ 3 ∷ []) (4 ∷ []) ((3 ∷ 4 ∷ []) ∷ [])

abbrev none-available : Configuration
none-available = configuration_of (1 ∷ []) (1 ∷ []) (1 ∷ []) [] []

pub record Found : Type 0 where
  pub more-accepted-is : judged_configuration more-accepted ≡ answered (broken accepted-not-offered 0x6b3343cf)
  pub more-offered-is : judged_configuration more-offered ≡ answered (broken offered-not-accepted 2)
  pub not-readable-is : judged_configuration not-readable ≡ answered (broken offered-not-readable 2)
  pub more-available-is : judged_configuration more-available ≡ answered (broken available-not-offered 2)
  pub less-available-is : judged_configuration less-available ≡ answered (broken offered-not-available 3)
  pub none-available-is : judged_configuration none-available ≡ answered (broken offered-not-available 1)

pub found : Found
unfolding judged_configuration paired pair_keeps_rule each_pair_keeps_rule pairs_keep_rule elem entries_keep_rule
    table_keeps_rule reserved usable
found =
    record {
      more-accepted-is = refl;
      more-offered-is = refl;
      not-readable-is = refl;
      more-available-is = refl;
      less-available-is = refl;
      none-available-is = refl;
    }

pub record Honest : Type 0 where
  -- 75 with nobody attacking
  pub with-more-accepted :
      honest_course more-accepted (client (0x6b3343cf ∷ 1 ∷ 14 ∷ []) ((1 ∷ 0x6b3343cf ∷ []) ∷ []) 14) ≡ closed-with 1 0x6b3343cf 75
  -- a second "negotiate", and then 24
  pub with-more-offered : honest_course more-offered (client (2 ∷ 14 ∷ []) [] 14) ≡ negotiated-again 2 24
  pub with-not-readable : honest_course not-readable (client (2 ∷ 14 ∷ []) [] 14) ≡ negotiated-again 2 24
  pub with-more-available : honest_course more-available (client (2 ∷ 1 ∷ 14 ∷ []) [] 14) ≡ closed-with 1 1 75
  pub with-less-available :
      honest_course less-available (client (3 ∷ 4 ∷ 1 ∷ 2 ∷ []) ((1 ∷ 2 ∷ []) ∷ (3 ∷ 4 ∷ []) ∷ []) 1) ≡ closed-with 3 4 75
  pub with-none-available : honest_course none-available (client (1 ∷ 14 ∷ []) [] 14) ≡ closed-with 1 1 74

pub honest : Honest
unfolding negotiation_packet packet_for list_bytes entries each_reserved reserved_keep_rule paired pair_keeps_rule each_pair_keeps_rule
    pairs_keep_rule preferred elem entries_keep_rule table_keeps_rule reserved usable is_readable_negotiation padded own_of
    journaled_step members word_where word_of word_for rows_for may_be_answered start_of opened step_of on_datagram on_outcome same
    information_as_sent given_for sent_from list_as_sent each_given_keeps_rule given_keep_rule may_use first_accepted decide
honest =
    record {
      with-more-accepted = refl;
      with-more-offered = refl;
      with-not-readable = refl;
      with-more-available = refl;
      with-less-available = refl;
      with-none-available = refl;
    }

-- ---- a packet that is forged

-- For the second theorem (Forged.antt) three parts are needed: each of these clients completed with what such a server sends, in a version that it accepts,
-- and attempted another version than the one that it would choose from the whole offer
abbrev less-listed : Configuration
less-listed = configuration_of (2 ∷ 1 ∷ []) (2 ∷ 1 ∷ []) (2 ∷ 1 ∷ []) (1 ∷ []) []

abbrev not-offered : Configuration
not-offered = configuration_of (2 ∷ 1 ∷ []) (2 ∷ 1 ∷ []) (1 ∷ []) (1 ∷ []) []

abbrev more-listed : Configuration
more-listed = configuration_of (2 ∷ 1 ∷ []) (1 ∷ []) (1 ∷ []) (2 ∷ 1 ∷ []) ((2 ∷ 1 ∷ []) ∷ [])

abbrev three : List (List ℕ) → Input
three pairs = client (2 ∷ 1 ∷ 14 ∷ []) pairs 14

pub record Forged : Type 0 where
  -- Available with less than is offered: down to 1
  pub less-is : judged_configuration less-listed ≡ answered (broken offered-not-available 2)
  pub less-choice : preferred (three []).table less-listed.offered ≡ Some 2
  pub with-less : course_with less-listed (three []) (1 ∷ []) ≡ completed-with 1 1
  -- accepted but not offered
  pub not-offered-is : judged_configuration not-offered ≡ answered (broken accepted-not-offered 2)
  pub not-offered-choice : preferred (three []).table not-offered.offered ≡ Some 1
  pub with-not-offered : course_with not-offered (three []) (2 ∷ []) ≡ completed-with 2 2
  -- Available with more than is offered
  pub more-is : judged_configuration more-listed ≡ answered (broken available-not-offered 2)
  pub more-choice : preferred (three ((2 ∷ 1 ∷ []) ∷ [])).table more-listed.offered ≡ Some 1
  pub with-more : course_with more-listed (three ((2 ∷ 1 ∷ []) ∷ [])) (2 ∷ []) ≡ completed-with 2 1

pub forged : Forged
unfolding judged_configuration negotiation_packet packet_for list_bytes entries each_reserved reserved_keep_rule paired
    pair_keeps_rule each_pair_keeps_rule pairs_keep_rule preferred elem entries_keep_rule table_keeps_rule reserved usable
    is_readable_negotiation padded own_of journaled_step members word_where word_of word_for rows_for may_be_answered start_of opened step_of
    on_datagram on_outcome same information_as_sent given_for sent_from list_as_sent each_given_keeps_rule given_keep_rule may_use first_accepted
    decide
forged =
    record {
      less-is = refl;
      less-choice = refl;
      with-less = refl;
      not-offered-is = refl;
      not-offered-choice = refl;
      with-not-offered = refl;
      more-is = refl;
      more-choice = refl;
      with-more = refl;
    }

-- ---- information that is missing, and a version in use that is not accepted

-- A forged packet with one version, to the client of this page
abbrev packet_of : ℕ → Handed
packet_of v =
    record { event = Datagram; bytes = 0x80 ∷ 0 ∷ 0 ∷ 0 ∷ 0 ∷ 1 ∷ 0xCC ∷ 2 ∷ 0xAA ∷ 0xBB ∷ list_bytes (v ∷ []) }

abbrev acted_on : Input → ℕ → Attempt
acted_on x v = journaled_run (start_of x).attempt (packet_of v ∷ [])

abbrev four-versions : Configuration
four-versions = configuration_of (1 ∷ 3 ∷ 4 ∷ 5 ∷ []) (1 ∷ 3 ∷ 4 ∷ 5 ∷ []) (1 ∷ 3 ∷ 4 ∷ 5 ∷ []) (1 ∷ 3 ∷ 4 ∷ 5 ∷ []) []

abbrev speaks-1 : Input
speaks-1 = client (5 ∷ 1 ∷ 6 ∷ 2 ∷ []) [] 6

abbrev only-2 : Configuration
only-2 = configuration_of (2 ∷ []) (2 ∷ []) (2 ∷ []) (2 ∷ []) []

abbrev likes-1 : Input
likes-1 = client (1 ∷ 2 ∷ 14 ∷ []) [] 14

pub record Premises : Type 0 where
  -- "information given": with missing information a client that attempted 1 completes through the stand-in of RFC 9368 section 8,
  -- though the server is safe and the client would choose 5
  pub four-safe : is_safe four-versions ≡ true
  pub four-choice : preferred speaks-1.table four-versions.offered ≡ Some 5
  pub missing : (journaled_step (acted_on speaks-1 1) (Outcome 1 Missing) []).reply ≡ answered (completes 1)
  -- "a version in use that the server accepts": a handshake in 1 with a server that accepts 2 alone
  pub two-safe : is_safe only-2 ≡ true
  pub two_choice : preferred likes-1.table only-2.offered ≡ Some 2
  pub not-accepted : (journaled_step (acted_on likes-1 1) (Outcome 1 Given) (information_bytes 1 (2 ∷ []))).reply ≡ answered (completes 1)

pub premises : Premises
unfolding is_safe keeps_safe_rule within list_bytes entries paired pair_keeps_rule each_pair_keeps_rule pairs_keep_rule preferred elem
    entries_keep_rule table_keeps_rule reserved usable is_readable_negotiation padded own_of journaled_run journaled_step members word_where
    word_of word_for rows_for may_be_answered start_of opened step_of on_datagram on_outcome same
premises =
    record { four-safe = refl; four-choice = refl; missing = refl; two-safe = refl; two_choice = refl; not-accepted = refl }
