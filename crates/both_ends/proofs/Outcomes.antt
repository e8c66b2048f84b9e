-- The outcome of a safe server's handshake: its information can be written and read, and a client whose own list has the version
-- in use completes, whether it acted on the server's packet or on none.
use Prim.Native.Nat.{ℕ, ◌^◌, ◌<◌, ◌≤◌}
use mathlib.Core.Bool.{Bool, true, false, not, or-true, false≢true}
use mathlib.Core.List.{List, [], ◌∷◌, ◌++◌}
use Rattle.std.specs.Prelude.{Some}
use mathlib.Core.Path.{◌≡◌, refl, sym, ap, ◌∙◌}
use native.Mathlib.Omega.{arith}
use borrow.Author.Tests.{eq-eqb, ne_eqb}
use lib.Dec.{eqb, eqb-suc-zero}
use lib.ListN.{length}
use Rattle.refusals.specs.Reply.{Reply.answered}
use Rattle.refusals.specs.Rule.{clear}
use Rattle.refusals.specs.declared.Call.TheVariants.{Reading}
use Rattle.refusals.proofs.Rules.{both_true, clear-append, lowest-clear, answer-given}
use Rattle.versions.specs.Table.{elem}
use Rattle.versions.proofs.WithoutReserved.{table-not-zero}
use Rattle.lists.specs.Wire.{all_below}
use Rattle.lists.proofs.Entries.{all_below-cons, all_below-elem, number-bytes_of, entries-list_bytes}
use Rattle.choosing.specs.Choice.{preferred}
use Rattle.choosing.proofs.Laws.{preferred-by-membership, preferred-held}
use Rattle.information.specs.Information.{chosen_of, available_of, form_rules, sender_rules, found_in, read_information, information_length, information_to_write}
use Rattle.information.specs.Presence.{Presence.Given}
use Rattle.information.specs.declared.Sender.TheVariants as sender
use Rattle.information.proofs.Kept.{Kept, write-answers}
use Rattle.information.proofs.RoundTrip.{written_read}
use Rattle.attempt.specs.Attempt.{own_as_answered, own_of}
use Rattle.attempt.specs.Journaled.{journaled_step}
use Rattle.attempt.specs.Start.{Input, our_list}
use Rattle.attempt.specs.Step.{After, information_rules, outcome_rules, closed, completed, step_of}
use Rattle.attempt.specs.declared.Attempt.{Attempt}
use Rattle.attempt.specs.declared.End.TheVariants as end
use Rattle.attempt.specs.Event.{Event.Outcome}
use Rattle.attempt.proofs.Demand3.{added}
use Rattle.attempt.proofs.Phases.{Acted, information-good, open-outcome}
use Rattle.both_ends.specs.Configuration.{Configuration}
use Rattle.both_ends.specs.Exchange.{server_information, Ends}
use Rattle.both_ends.proofs.Along.{completed-stays}
use Rattle.both_ends.proofs.Safe.{Safe}

-- A list whose versions are all below a bound
each_below : (bound : ℕ) (list : List ℕ) → ((v : ℕ) → elem v list ≡ true → v < bound) → all_below bound list ≡ true
unfolding all_below elem
each_below bound [] h = refl
each_below bound (w ∷ list) h =
    all_below-cons bound w list (h w (rw (eq-eqb w w refl) refl))
    (each_below bound list (λ v e. h v (rw (e, or-true) refl)))

-- What a safe server offers are versions of 32 bits, so are those that it lists as Available
pub available-below : (c : Configuration) → Safe c → all_below (2 ^ 32) c.offered ≡ true → all_below (2 ^ 32) c.available ≡ true
available-below c s below =
    each_below (2 ^ 32) c.available
    (λ v e. all_below-elem (2 ^ 32) c.offered v below (sym (s.available-offered v) ∙ e))

-- A list that holds a version is not empty
holds-some : (v : ℕ) (list : List ℕ) → elem v list ≡ true → not (eqb (length list) 0) ≡ true
unfolding elem
holds-some v [] h = absurd (false≢true h)
holds-some v (w ∷ list) h = rw (eqb-suc-zero (length list))

-- ---- the server's information

module _ (c : Configuration) (s : Safe c) (below : all_below (2 ^ 32) c.available ≡ true)
    (in_use : ℕ) (accepted : elem in_use c.accepted ≡ true) where
  pub in-use-available : elem in_use c.available ≡ true
  in-use-available = s.available-offered in_use ∙ sym (s.accepted-offered in_use) ∙ accepted

  small : in_use < 2 ^ 32
  small = all_below-elem (2 ^ 32) c.available in_use below in-use-available

  no_zero : (b : Bool) → elem 0 c.available ≡ b → b ≡ false
  no_zero true e = absurd (table-not-zero c.offered 0 s.offered-kept (sym (s.available-offered 0) ∙ e) refl)
  no_zero false e = refl

  kept : Kept sender.Server in_use c.available
  kept =
      record {
        chosen-given = ne_eqb in_use 0 (table-not-zero c.accepted in_use s.accepted-kept accepted);
        none-zero = no_zero (elem 0 c.available) refl;
        among = refl;
      }

  -- it is written wherever there is room
  pub server-writes : (room : ℕ) → information_length c.available ≤ room →
      information_to_write sender.Server in_use c.available room ≡ answered (server_information c in_use)
  server-writes room fits =
      write-answers sender.Server in_use c.available room (record { few = s.available-few; others = kept; fits = fits })

  -- and read: 31 to 35 do not apply
  pub server-formed : clear (form_rules (server_information c in_use)) ≡ true
  unfolding read_information
  server-formed =
      let bytes = server_information c in_use in
      let long = information_length c.available in
      let read = written_read sender.Server in_use c.available long bytes small below (server-writes long (omega arith)) in
      let from-server = sender_rules sender.Server (chosen_of bytes) (available_of bytes) in
      let None = (answer-given Reading (form_rules bytes ++ from-server) (found_in bytes) read.found read.reads).0 in
      (both_true (clear (form_rules bytes)) (clear from-server) (sym (clear-append (form_rules bytes) from-server) ∙ None)).0

  pub server-chosen : chosen_of (server_information c in_use) ≡ in_use
  server-chosen = number-bytes_of in_use small

  pub server-available : available_of (server_information c in_use) ≡ c.available
  server-available = entries-list_bytes c.available below

  -- ---- the client

  -- an outcome to which no rule applies ends the exchange
  ends : (a : Attempt) → a.end ≡ end.Open → clear (information_rules a in_use Given (server_information c in_use)) ≡ true → Ends c a in_use
  unfolding journaled_step
  ends a open? None =
      let step : step_of a (Outcome in_use Given) (server_information c in_use) ≡ completed a in_use =
      open-outcome a in_use Given (server_information c in_use) open? ∙
      lowest-clear (closed a) (completed a in_use) (information_rules a in_use Given (server_information c in_use)) None in
      record {
        written = server-writes;
        completes = ap (λ (t : After). t.reply) step;
        stays = λ later. completed-stays _ later in_use (ap (λ (t : After). t.attempt.end) step);
      }

  -- one that acted with the choice from what is offered
  pub acted-ends : (x : Input) (attempted : ℕ) (a : Attempt) → Acted x attempted a →
      preferred x.table c.offered ≡ Some attempted → elem in_use (our_list x attempted) ≡ true → Ends c a in_use
  acted-ends x attempted a acted choice own =
      let again : preferred x.table (c.available ++ (in_use ∷ [])) ≡ Some attempted =
      added x.table c.available in_use in-use-available ∙
      preferred-by-membership x.table c.available c.offered (λ v e. s.available-offered v) ∙
      choice in
      let held : elem attempted c.available ≡ true =
      s.available-offered attempted ∙ (preferred-held x.table c.offered attempted choice).1 in
      ends a acted.open?
      (information-good x attempted a in_use Given (server_information c in_use) acted ∙
      rw (
        server-formed,
        server-chosen,
        server-available,
        own,
        eq-eqb in_use in_use refl,
        holds-some attempted c.available held,
        again,
        eq-eqb attempted attempted refl,
      ))

  -- one that never acted
  pub direct-ends : (a : Attempt) → a.acted ≡ false → a.end ≡ end.Open → elem in_use (own_as_answered a) ≡ true → Ends c a in_use
  unfolding own_of
  direct-ends a acted open? own =
      let bytes = server_information c in_use in
      ends a open?
      (clear-append (form_rules bytes) (outcome_rules a in_use (chosen_of bytes) (available_of bytes)) ∙
      rw (server-formed, server-chosen, acted, own, eq-eqb in_use in_use refl))
