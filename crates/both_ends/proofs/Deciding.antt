-- The server's choice: for a flight that has the version and the information of a client's record, and for any flight in a
-- version that a safe server offers.
use Prim.Native.Nat.{ℕ, ◌^◌, ◌<◌}
use mathlib.Core.Bool.{Bool, true, false, cond, not, ◌&&◌, ◌||◌, true≢false, false≢true}
use mathlib.Core.List.{List, [], ◌∷◌, ◌++◌}
use mathlib.Core.Path.{◌≡◌, refl, sym, ap, ◌∙◌}
use borrow.Author.Tests.{eqb-true, eq-eqb, not-true, not-false}
use lib.Dec.{eqb}
use native.Mathlib.Omega.{arith}
use Rattle.std.proofs.Common.{tests}
use Rattle.refusals.specs.Reply.{Reply.answered, refuse}
use Rattle.refusals.specs.Rule.{Rule, Rule.◌when◌, clear}
use Rattle.refusals.specs.declared.Call.TheVariants.{Reading}
use Rattle.refusals.proofs.Rules.{both_true, neither, clear-append, lowest-clear, reply-given, answer-given, answered-injective}
use Rattle.versions.specs.Table.{elem, table_keeps_rule}
use Rattle.versions.specs.Version.{reserved}
use Rattle.versions.proofs.WithoutReserved.{elem-without, table-not-reserved}
use Rattle.lists.proofs.Entries.{all_below-elem, number-bytes_of, entries-list_bytes}
use Rattle.information.specs.Information.{chosen_of, available_of, form_rules, sender_rules, found_in, read_information}
use Rattle.information.specs.Presence.{Presence, Presence.Missing, Presence.Given}
use Rattle.information.specs.declared.Sender.TheVariants.{Client}
use Rattle.server.specs.FirstFlight.{Act.negotiate, Act.use-version, server_rules, flight_rules, may_use, first_accepted}
use Rattle.server.specs.FirstFlight.{with_information, decide}
use Rattle.attempt.specs.Attempt.{own_as_answered, own_as_sent}
use Rattle.attempt.specs.Events.{Reachable}
use Rattle.attempt.specs.declared.Attempt.{Attempt}
use Rattle.attempt.proofs.ReservedChosen.{own-unreserved, attempted-own}
use Rattle.client_information.proofs.ReadAgain.{client-bytes, client-read, client-own}
use Rattle.both_ends.specs.Configuration.{Configuration}
use Rattle.both_ends.specs.Exchange.{Informed}
use Rattle.both_ends.proofs.Safe.{Safe}

-- ---- the first accepted version that may be used

module _ (pairs : List (List ℕ)) (barred : List ℕ) (chosen : ℕ) (available : List ℕ) where
  -- it is accepted, and may be used
  used-is : (accepted : List ℕ) (v : ℕ) → first_accepted accepted pairs barred chosen available ≡ use-version v →
      (elem v accepted ≡ true) × (may_use pairs barred chosen available v ≡ true)
  unfolding first_accepted elem
  used-is [] v h = cc
  used-is (w ∷ accepted) v h = let later = used-is accepted v in grind (arith, tests)

  -- so it is available
  may-be-available : (v : ℕ) → may_use pairs barred chosen available v ≡ true → elem v available ≡ true
  unfolding may_use
  may-be-available v m = (both_true (elem v available) _ m).0

  -- there is one where Chosen is accepted and available
  pub chosen-used : (accepted : List ℕ) → elem chosen accepted ≡ true → elem chosen available ≡ true →
      (v : ℕ) × (first_accepted accepted pairs barred chosen available ≡ use-version v)
  unfolding first_accepted elem may_use
  chosen-used [] h among = absurd (false≢true h)
  chosen-used (w ∷ accepted) h among =
      here (eqb w chosen) refl h (λ e. chosen-used accepted e among) (may_use pairs barred chosen available w) refl
    where
      may : eqb w chosen ≡ true → may_use pairs barred chosen available w ≡ true
      may e = let same : w ≡ chosen = eqb-true w chosen e in rw (same, among, eq-eqb chosen chosen refl)

      here : (b : Bool) → eqb w chosen ≡ b → (b || elem chosen accepted) ≡ true →
          (elem chosen accepted ≡ true → (v : ℕ) × (first_accepted accepted pairs barred chosen available ≡ use-version v)) →
          (m : Bool) → may_use pairs barred chosen available w ≡ m →
          (v : ℕ) × (cond (may_use pairs barred chosen available w) (use-version w) (first_accepted accepted pairs barred chosen available) ≡ use-version v)
      here b e h later true m = (w, rw m)
      here true e h later false m = absurd (true≢false (sym (may e) ∙ m))
      here false e h later false m = let found = later h in (found.0, rw m found.1)

-- ---- a flight in a version that is offered

-- 31 to 35, 36 and 51
abbrev version_rules : List ℕ → ℕ → List Rule
version_rules information version = (51 when not (eqb (chosen_of information) version)) ∷ []

abbrev client_rules : List ℕ → List Rule
client_rules information = sender_rules Client (chosen_of information) (available_of information)

flight-parts : (information : List ℕ) (version : ℕ) →
    clear (flight_rules information version) ≡
    (clear (form_rules information) && (clear (client_rules information) && clear (version_rules information version)))
flight-parts information version =
    clear-append (form_rules information) (client_rules information ++ version_rules information version) ∙
    ap (λ (b : Bool). clear (form_rules information) && b) (clear-append (client_rules information) (version_rules information version))

-- where they do not apply
flight-clear : (information : List ℕ) (version : ℕ) → clear (flight_rules information version) ≡ true →
    (elem (chosen_of information) (available_of information) ≡ true) × (chosen_of information ≡ version)
flight-clear information version h =
    let formed = both_true (clear (form_rules information)) _ (sym (flight-parts information version) ∙ h) in
    let parts = both_true (clear (client_rules information)) (clear (version_rules information version)) formed.1 in
    let p36 = both_true (not (not (elem (chosen_of information) (available_of information)))) true parts.0 in
    let p51 = both_true (not (not (eqb (chosen_of information) version))) true parts.1 in
    (not-false _ (not-true _ p36.0), eqb-true _ _ (not-false _ (not-true _ p51.0)))

-- A safe server never negotiates what it offers, whatever the flight says and whatever is barred
pub negotiated-not-offered : (c : Configuration) → Safe c → (barred : List ℕ) (version : ℕ) (presence : Presence) (information : List ℕ) →
    decide c.readable c.accepted c.pairs barred version presence information ≡ answered negotiate →
    elem version c.offered ≡ false
unfolding decide
negotiated-not-offered c s barred version presence information h = go (elem version c.offered) refl
  where
    missing : elem version c.accepted ≡ true → with_information c.accepted c.pairs barred version Missing information ≡ answered negotiate → ⊥
    missing accepted e =
        let taken = ap (λ (b : Bool). answered (cond b (use-version version) negotiate)) (sym accepted) ∙ e in cc

    given : elem version c.accepted ≡ true → with_information c.accepted c.pairs barred version Given information ≡ answered negotiate → ⊥
    given accepted e =
        let found = answer-given Reading (flight_rules information version)
        (first_accepted c.accepted c.pairs barred (chosen_of information) (available_of information)) negotiate e in
        let facts = flight-clear information version found.0 in
        let taken = chosen-used c.pairs barred (chosen_of information) (available_of information) c.accepted
        (ap (λ (v : ℕ). elem v c.accepted) facts.1 ∙ accepted) facts.0 in
        cc (taken.1, found.1)

    never : (p : Presence) → elem version c.accepted ≡ true → with_information c.accepted c.pairs barred version p information ≡ answered negotiate → ⊥
    never Missing = missing
    never Given = given

    go : (b : Bool) → elem version c.offered ≡ b → elem version c.offered ≡ false
    go true e =
        let decided = (reply-given Reading (server_rules c.readable c.accepted c.pairs barred) _ negotiate h).1 in
        absurd
        (never presence (s.accepted-offered version ∙ e)
        (ap (λ (b : Bool). cond b (with_information c.accepted c.pairs barred version presence information) (answered negotiate))
        (sym (s.offered-readable version e)) ∙
        decided))
    go false e = e

-- ---- the flight of a client's record

module _ (a : Attempt) (information : List ℕ) (r : Reachable a) (i : Informed a information) where
  -- what is not reserved is in the list as sent exactly when it is in the own list
  pub sent-own : (v : ℕ) → reserved v ≡ false → elem v (own_as_sent a i.given) ≡ elem v (own_as_answered a)
  sent-own v unreserved =
      sym (elem-without v (own_as_sent a i.given) unreserved) ∙
      ap (elem v) (client-own a i.given i.room information r i.written)

  pub sent-attempted : elem a.attempted (own_as_sent a i.given) ≡ true
  sent-attempted =
      sent-own a.attempted (own-unreserved a a.attempted r (attempted-own a r)) ∙ attempted-own a r

  attempted-small : a.attempted < 2 ^ 32
  attempted-small = all_below-elem (2 ^ 32) (own_as_sent a i.given) a.attempted i.versions sent-attempted

  is-chosen : chosen_of information ≡ a.attempted
  is-chosen =
      ap chosen_of (sym (client-bytes a i.given i.room information r i.written)) ∙ number-bytes_of a.attempted attempted-small

  is-available : available_of information ≡ own_as_sent a i.given
  is-available =
      ap available_of (sym (client-bytes a i.given i.room information r i.written)) ∙
      entries-list_bytes (own_as_sent a i.given) i.versions

  -- 31 to 36 and 51 do not apply
  flight-formed : clear (flight_rules information a.attempted) ≡ true
  unfolding read_information
  flight-formed =
      let read = client-read a i.given i.room information r i.written attempted-small i.versions in
      let none = (answer-given Reading (form_rules information ++ client_rules information) (found_in information) read.found read.reads).0 in
      let parts = both_true (clear (form_rules information)) (clear (client_rules information))
      (sym (clear-append (form_rules information) (client_rules information)) ∙ none) in
      flight-parts information a.attempted ∙ rw (parts.0, parts.1, eq-eqb _ _ is-chosen)

  -- So in a readable version the first accepted version that may be used is the answer
  pub client-decided : (readable accepted : List ℕ) (pairs : List (List ℕ)) (barred : List ℕ) →
      clear (server_rules readable accepted pairs barred) ≡ true → elem a.attempted readable ≡ true →
      decide readable accepted pairs barred a.attempted Given information ≡
      answered (first_accepted accepted pairs barred a.attempted (own_as_sent a i.given))
  unfolding decide
  client-decided readable accepted pairs barred none held =
      lowest-clear (refuse Reading) _ (server_rules readable accepted pairs barred) none ∙
      rw held
      (lowest-clear (refuse Reading) _ (flight_rules information a.attempted) flight-formed ∙
      ap answered
      (ap (λ (v : ℕ). first_accepted accepted pairs barred v (available_of information)) is-chosen ∙
      ap (first_accepted accepted pairs barred a.attempted) is-available))

  -- The version in use is accepted, and in the own list
  pub client-used : (readable accepted : List ℕ) (pairs : List (List ℕ)) (barred : List ℕ) (in_use : ℕ) →
      decide readable accepted pairs barred a.attempted Given information ≡ answered (use-version in_use) →
      (elem in_use accepted ≡ true) × (elem in_use (own_as_answered a) ≡ true)
  unfolding decide
  client-used readable accepted pairs barred in_use h =
      let decided = reply-given Reading (server_rules readable accepted pairs barred) _ (use-version in_use) h in
      go decided.0 (elem a.attempted readable) refl decided.1
    where
      -- 41 does not apply
      accepted-kept : clear (server_rules readable accepted pairs barred) ≡ true → table_keeps_rule accepted ≡ true
      accepted-kept none =
          not-false _ (neither (not (table_keeps_rule readable)) (not (table_keeps_rule accepted)) (both_true _ _ none).0).1

      go : clear (server_rules readable accepted pairs barred) ≡ true → (b : Bool) → elem a.attempted readable ≡ b →
          cond b (with_information accepted pairs barred a.attempted Given information) (answered negotiate) ≡ answered (use-version in_use) →
          (elem in_use accepted ≡ true) × (elem in_use (own_as_answered a) ≡ true)
      go none true e d =
          let first = answered-injective _ _ (sym (client-decided readable accepted pairs barred none e) ∙ h) in
          let found = used-is pairs barred a.attempted (own_as_sent a i.given) accepted in_use first in
          let unreserved = table-not-reserved accepted in_use (accepted-kept none) found.0 in (
            found.0,
            sym (sent-own in_use unreserved) ∙ may-be-available pairs barred a.attempted (own_as_sent a i.given) in_use found.1,
          )
      go none false e d = cc
