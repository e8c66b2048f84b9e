-- An honest exchange with a safe server completes. The words are those of specs/Exchange.antt. Beside it: where nothing is in
-- common the client ends with 65; a safe server's packet writer never answers 24 to what the server negotiates; and a client that
-- was never negotiated with completes too.
use Prim.Native.Nat.{ℕ, ◌^◌, ◌≤◌}
use mathlib.Core.Bool.{Bool, true, false}
use mathlib.Core.List.{List}
use Rattle.std.specs.Prelude.{None, Some}
use mathlib.Core.Path.{◌≡◌, refl, sym, ap, ◌∙◌}
use borrow.Author.Tests.{le-ltb}
use lib.ListN.{length}
use lib.Seq.{take-append_seam}
use Rattle.refusals.specs.Reply.{Reply.answered, refuse}
use Rattle.refusals.specs.Rule.{clear}
use Rattle.refusals.specs.declared.Call.TheVariants.{Reading, Writing}
use Rattle.refusals.proofs.Rules.{lowest-clear}
use Rattle.versions.specs.Table.{elem}
use Rattle.lists.specs.Wire.{all_below}
use Rattle.lists.proofs.Entries.{all_below-take}
use Rattle.choosing.specs.Choice.{preferred}
use Rattle.choosing.proofs.Laws.{preferred-held}
use Rattle.invariants.specs.Header.{version_of}
use Rattle.negotiation.specs.Packet.{list_sent, negotiation_packet}
use Rattle.negotiation.proofs.WithReserved.{other-never-24}
use Rattle.information.specs.Presence.{Presence, Presence.Given}
use Rattle.server.specs.FirstFlight.{Act, Act.negotiate, Act.use-version, server_rules, decide}
use Rattle.server.specs.Limits.{max_barred}
use Rattle.attempt.specs.Attempt.{closed_with, own_as_answered, own_as_sent, own_of}
use Rattle.attempt.specs.Events.{journaled_run, Reachable}
use Rattle.attempt.specs.Journaled.{journaled_step}
use Rattle.attempt.specs.Start.{Input, our_list, start_of}
use Rattle.attempt.specs.declared.Attempt.{Attempt}
use Rattle.attempt.specs.declared.End.TheVariants as end
use Rattle.attempt.specs.Event.{Event.Datagram}
use Rattle.attempt.proofs.Phases.{Fresh, Acted}
use Rattle.attempt.proofs.Reaching.{reachable-step}
use Rattle.both_ends.specs.Configuration.{Configuration, is_safe}
use Rattle.both_ends.specs.Exchange.{Informed, Ends, Served, Exchange, waiting, negotiated_with, Completes}
use Rattle.both_ends.proofs.Along.{started, ignored-run, fresh-acts, fresh-nothing, acted-open, reachable-run, reachable-start}
use Rattle.both_ends.proofs.Deciding.{negotiated-not-offered, chosen-used, client-decided, client-used, sent-attempted}
use Rattle.both_ends.proofs.Outcomes.{available-below, acted-ends, direct-ends}
use Rattle.both_ends.proofs.Safe.{Safe, safe-facts}
use Rattle.both_ends.proofs.ServerPacket.{packet-fits, packet-choice}

-- ---- the server

-- 41 and 43 do not apply
safe-clear : (c : Configuration) → Safe c → (barred : List ℕ) → length barred ≤ max_barred →
    clear (server_rules c.readable c.accepted c.pairs barred) ≡ true
safe-clear c s barred few = rw (s.readable-kept, s.accepted-kept, s.pairs-kept, le-ltb max_barred (length barred) few)

-- A flight of a client's record in a version that is offered: a version is used
served-version : (c : Configuration) → Safe c → (barred : List ℕ) → length barred ≤ max_barred →
    (a : Attempt) (information : List ℕ) → Reachable a → Informed a information → elem a.attempted c.offered ≡ true →
    (in_use : ℕ) × (decide c.readable c.accepted c.pairs barred a.attempted Given information ≡ answered (use-version in_use))
served-version c s barred few a information r i offered =
    let found = chosen-used c.pairs barred a.attempted (own_as_sent a i.given) c.accepted
    (s.accepted-offered a.attempted ∙ offered) (sent-attempted a information r i) in (
      found.0,
      client-decided a information r i c.readable c.accepted c.pairs barred (safe-clear c s barred few)
          (s.offered-readable a.attempted offered) ∙
          ap answered found.1,
    )

-- ---- the exchange

module _ (c : Configuration) (x : Input) (e : Exchange c x) where
  waits : Fresh x (waiting e)
  waits = ignored-run x (start_of x).attempt e.before (started x e.accepted) e.ignored

  reachable : Reachable (negotiated_with e)
  reachable =
      reachable-step (waiting e) Datagram e.packet (reachable-run (start_of x).attempt e.before (reachable-start x e.accepted))

  offered-below : all_below (2 ^ 32) c.offered ≡ true
  offered-below =
      rw (← take-append_seam c.offered e.negotiated.reserved)
      (all_below-take (2 ^ 32) (length c.offered) (list_sent c.offered e.negotiated.reserved) e.negotiated.versions)

  -- For every safe server and every exchange in which the client's table has a version in common with what is offered, the
  -- exchange completes: with the choice from what is offered as the attempted version
  pub honest-exchange : (attempted : ℕ) → is_safe c ≡ true → preferred x.table c.offered ≡ Some attempted → Completes e attempted
  unfolding own_of
  honest-exchange attempted safe? choice =
      let s = safe-facts c safe? in
      let act = fresh-acts x (waiting e) e.packet attempted waits (packet-fits c x e.packet e.negotiated)
      (packet-choice c x e.packet e.negotiated e.accepted ∙ choice) in
      record {
        acts = act.0;
        served =
            λ between quiet barred few information i.
            serves s (journaled_run (negotiated_with e) between) (acted-open x attempted _ between act.1 quiet)
            (reachable-run (negotiated_with e) between reachable) barred few information i;
      }
    where
      serves : Safe c → (a : Attempt) → Acted x attempted a → Reachable a → (barred : List ℕ) → length barred ≤ max_barred →
          (information : List ℕ) → Informed a information → Served c barred a attempted information
      serves s a acted r barred few information i =
          let offered : elem a.attempted c.offered ≡ true =
          ap (λ (v : ℕ). elem v c.offered) acted.attempted ∙ (preferred-held x.table c.offered attempted choice).1 in
          let served = served-version c s barred few a information r i offered in
          let found = client-used a information r i c.readable c.accepted c.pairs barred served.0 served.1 in
          let own : own_as_answered a ≡ our_list x attempted = rw acted.attempted (acted.reads.own attempted acted.held) in
          record {
            in_use = served.0;
            uses =
                ap (λ (v : ℕ). decide c.readable c.accepted c.pairs barred v Given information) (sym acted.attempted) ∙
                served.1;
            ends =
                λ between quiet.
                acted-ends c s (available-below c s offered-below) served.0 found.0 x attempted (journaled_run a between)
                (acted-open x attempted a between acted quiet) choice (ap (elem served.0) (sym own) ∙ found.1);
          }

  -- Where nothing is in common: 65
  pub nothing-in-common : preferred x.table c.offered ≡ None →
      ((journaled_step (waiting e) Datagram e.packet).reply ≡ refuse Reading 65) × ((negotiated_with e).end ≡ closed_with 65)
  nothing-in-common h =
      fresh-nothing x (waiting e) e.packet waits (packet-fits c x e.packet e.negotiated)
      (packet-choice c x e.packet e.negotiated e.accepted ∙ h)

-- ---- beside it

-- Whenever a safe server decides "negotiate", its packet writer does not answer 24, whatever it was sent
pub negotiated-never-24 : (c : Configuration) → is_safe c ≡ true →
    (barred : List ℕ) (received : List ℕ) (presence : Presence) (information : List ℕ) →
    decide c.readable c.accepted c.pairs barred (version_of received) presence information ≡ answered negotiate →
    (numbers : List ℕ) (unused_bits room : ℕ) → negotiation_packet received c.offered numbers unused_bits room ≡ refuse Writing 24 → ⊥
negotiated-never-24 c safe? barred received presence information decided numbers unused_bits room h =
    other-never-24 received c.offered numbers unused_bits room
    (λ kept. negotiated-not-offered c (safe-facts c safe?) barred (version_of received) presence information decided) h

-- A flight of a client's record is never refused by a safe server
pub flight-answered : (c : Configuration) → is_safe c ≡ true → (barred : List ℕ) → length barred ≤ max_barred →
    (a : Attempt) (information : List ℕ) → Reachable a → Informed a information →
    (act : Act) × (decide c.readable c.accepted c.pairs barred a.attempted Given information ≡ answered act)
unfolding decide
flight-answered c safe? barred few a information r i = go (elem a.attempted c.readable) refl
  where
    none-applies : clear (server_rules c.readable c.accepted c.pairs barred) ≡ true
    none-applies = safe-clear c (safe-facts c safe?) barred few

    go : (b : Bool) → elem a.attempted c.readable ≡ b →
        (act : Act) × (decide c.readable c.accepted c.pairs barred a.attempted Given information ≡ answered act)
    go true held = (_, client-decided a information r i c.readable c.accepted c.pairs barred none-applies held)
    go false held =
        (negotiate, lowest-clear (refuse Reading) _ (server_rules c.readable c.accepted c.pairs barred) none-applies ∙ rw held)

-- A client that was never negotiated with: where a safe server uses a version for its flight, the outcome completes its attempt
pub direct-exchange : (c : Configuration) → is_safe c ≡ true → all_below (2 ^ 32) c.available ≡ true →
    (barred : List ℕ) (a : Attempt) (information : List ℕ) (in_use : ℕ) → Reachable a → a.acted ≡ false → a.end ≡ end.Open →
    Informed a information →
    decide c.readable c.accepted c.pairs barred a.attempted Given information ≡ answered (use-version in_use) →
    Ends c a in_use
direct-exchange c safe? below barred a information in_use r acted open? i decided =
    let found = client-used a information r i c.readable c.accepted c.pairs barred in_use decided in
    direct-ends c (safe-facts c safe?) below in_use found.0 a acted open? found.1

-- and it uses one wherever the client's version is offered
pub offered-used : (c : Configuration) → is_safe c ≡ true → (barred : List ℕ) → length barred ≤ max_barred →
    (a : Attempt) (information : List ℕ) → Reachable a → Informed a information → elem a.attempted c.offered ≡ true →
    (in_use : ℕ) × (decide c.readable c.accepted c.pairs barred a.attempted Given information ≡ answered (use-version in_use))
offered-used c safe? barred few a information r i offered = served-version c (safe-facts c safe?) barred few a information r i offered
