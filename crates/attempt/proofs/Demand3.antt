-- Demand 3: "For every start that isn't refused and every list of events after it (datagram, heard, outcome, refused
-- ones too): after the list, a client that acted on a Version Negotiation packet has completed exactly when it was
-- handed an outcome and the first one was good. .. So take two such clients with one table, whatever was forged at
-- each. If both completed against the same Available list, and it holds the version in use at each, they attempted
-- the same version." The terms are defined in specs/Demand.antt; `start_of` is the definition that the contract of the
-- public start equates, `run` is of document 01's step. The contract of the public step equates that step with its answer
-- noted (document 02, C-20), and Demand3Journaled.antt has the demand over it.
use Prim.Native.Nat.{ℕ}
use mathlib.Core.Bool.{Bool, true, false, not, ◌||◌, or-false, false≢true}
use mathlib.Core.List.{List, [], ◌∷◌, ◌++◌}
use mathlib.Core.Logic.{◌≢◌, ◌↔◌}
use Rattle.std.specs.Prelude.{Option, None, Some}
use Rattle.std.proofs.lemmas.Option.{same_Some}
use mathlib.Core.Path.{◌≡◌, refl, sym, ap, ◌∙◌}
use lib.Dec.{eqb, eqb-suc-zero}
use lib.ListN.{length}
use borrow.Author.Tests.{eqb-true, eq-eqb}
use Rattle.refusals.proofs.Rules.{both_true, lowest-clear}
use Rattle.refusals.specs.Reply.{Reply.answered}
use Rattle.choosing.specs.Choice.{preferred}
use Rattle.versions.specs.Table.{elem}
use Rattle.choosing.proofs.Laws.{preferred-by-membership}
use Rattle.versions.proofs.Lists.{elem-append}
use Rattle.attempt.specs.Attempt.{is_completed}
use Rattle.attempt.specs.Demand.{acted_with, Handshake, outcome_at, first_outcome, VersionInformation, information_of, Good, CompletedAgainst}
use Rattle.attempt.specs.Events.{Handed, run}
use Rattle.attempt.specs.Start.{Input, our_list, Start, Nothing.nothing, start_rules, is_accepted, start_of, refused_start, opened}
use Rattle.attempt.specs.Step.{picks}
use Rattle.attempt.specs.declared.Attempt.{Attempt}
use Rattle.attempt.specs.Event.{Event, Event.Datagram, Event.PacketProcessed, Event.Outcome}
use Rattle.attempt.proofs.Phases.{Fresh, opened-reads, fresh-run, is_good_information, is_good_at, first_is_good}

-- The start

pub start-accepted : (x : Input) → is_accepted x ≡ true → (start_of x).attempt ≡ opened x
unfolding start_of
start-accepted x h =
    ap (λ (s : Start). s.attempt)
    (lowest-clear refused_start (record { attempt = opened x; reply = answered nothing }) (start_rules x) h)

pub opened-fresh : (x : Input) → Fresh x (opened x)
unfolding opened
opened-fresh x = record { reads = opened-reads x; acted = refl; heard = refl; open? = refl }

-- Good, as a test and as its five parts

picked : (o : Option ℕ) (v : ℕ) → picks o v ≡ true → o ≡ Some v
picked None v h = absurd (false≢true h)
picked (Some w) v h = ap Some (eqb-true w v h)

holds-some : (l : List ℕ) → not (eqb (length l) 0) ≡ true → l ≢ []
holds-some l h e = false≢true (sym (ap (λ (m : List ℕ). not (eqb (length m) 0)) e) ∙ h)

counts_some : (l : List ℕ) → l ≢ [] → not (eqb (length l) 0) ≡ true
counts_some [] h = absurd (h refl)
counts_some (v ∷ l) h = rw (eqb-suc-zero (length l))

test_good : (x : Input) (v : ℕ) (h : Handshake) (o : Option VersionInformation) → information_of v h ≡ o →
    is_good_information x v h.in_use o ≡ true → Good x v h
test_good x v h None e t = absurd (false≢true t)
test_good x v h (Some i) e t =
    let a = both_true (elem i.chosen (our_list x v)) _ t in
    let b = both_true (eqb i.chosen h.in_use) _ a.1 in
    let c = both_true (not (eqb (length i.available) 0)) _ b.1 in
    record {
      information = i;
      well_formed = e;
      in_our_list = a.0;
      is_in_use = eqb-true i.chosen h.in_use b.0;
      available_not_empty = holds-some i.available c.0;
      would_choose = picked (preferred x.table (i.available ++ (h.in_use ∷ []))) v c.1;
    }

good-test : (x : Input) (v : ℕ) (h : Handshake) → Good x v h → is_good_information x v h.in_use (information_of v h) ≡ true
good-test x v h g =
    rw (
      g.well_formed,
      g.in_our_list,
      eq-eqb g.information.chosen h.in_use g.is_in_use,
      counts_some g.information.available g.available_not_empty,
      g.would_choose,
      eq-eqb v v refl,
    )

-- The first outcome

outcome-test : Input → ℕ → Option Handshake → Bool
outcome-test x v None = false
outcome-test x v (Some h) = is_good_information x v h.in_use (information_of v h)

first-tested : (x : Input) (v : ℕ) (es : List Handed) → first_is_good x v es ≡ outcome-test x v (first_outcome es)
unfolding first_is_good first_outcome outcome-test
first-tested x v [] = refl
first-tested x v (e ∷ es) = go e.event (first-tested x v es)
  where
    go : (ev : Event) → first_is_good x v es ≡ outcome-test x v (first_outcome es) →
        is_good_at x v ev e.bytes (first_is_good x v es) ≡ outcome-test x v (outcome_at ev e.bytes (first_outcome es))
    go Datagram ih = ih
    go PacketProcessed ih = ih
    go (Outcome u p) ih = refl

first_good : (x : Input) (v : ℕ) (es : List Handed) → first_is_good x v es ≡ true →
    (h : Handshake) × (first_outcome es ≡ Some h) × Good x v h
unfolding outcome-test
first_good x v es t = go (first_outcome es) refl (sym (first-tested x v es) ∙ t)
  where
    go : (o : Option Handshake) → first_outcome es ≡ o → outcome-test x v o ≡ true →
        (h : Handshake) × (first_outcome es ≡ Some h) × Good x v h
    go None e t = absurd (false≢true t)
    go (Some h) e t = (h, e, test_good x v h (information_of v h) refl t)

good-first : (x : Input) (v : ℕ) (es : List Handed) → (h : Handshake) × (first_outcome es ≡ Some h) × Good x v h →
    first_is_good x v es ≡ true
unfolding outcome-test
good-first x v es g =
    first-tested x v es ∙ ap (outcome-test x v) g.1 ∙ good-test x v g.0 g.2

-- The demand

pub demand-3 : (x : Input) (events : List Handed) (attempted : ℕ) →
    is_accepted x ≡ true →  -- for every start that isn't refused
    acted_with x events ≡ Some attempted →  -- a client that acted on a Version Negotiation packet
    (is_completed (run (start_of x).attempt events).end ≡ true) ↔  -- has completed exactly when
    ((h : Handshake) × (first_outcome events ≡ Some h) ×  -- it was handed an outcome
    Good x attempted h)  -- and the first one was good
demand-3 x events v accepted acted =
    let e : is_completed (run (start_of x).attempt events).end ≡ first_is_good x v events =
    ap (λ (a : Attempt). is_completed (run a events).end) (start-accepted x accepted) ∙
    fresh-run x v (opened x) events (opened-fresh x) acted in
    ((λ c. first_good x v events (sym e ∙ c)), (λ g. e ∙ good-first x v events g))

-- Two clients

-- a list that holds the version in use is no other list to choose from with that version added
pub added : (t l : List ℕ) (u : ℕ) → elem u l ≡ true → preferred t (l ++ (u ∷ [])) ≡ preferred t l
unfolding elem
added t l u h = preferred-by-membership t (l ++ (u ∷ [])) l (λ v held. elem-append v l (u ∷ []) ∙ go v (eqb u v) refl)
  where
    go : (v : ℕ) (b : Bool) → eqb u v ≡ b → (elem v l || (b || false)) ≡ elem v l
    go v true e = let s : u ≡ v = eqb-true u v e in rw (← s, h)
    go v false e = or-false (elem v l)

-- what such a client attempted is what its table chooses from the list that it completed against
pub chosen-from : (l : List ℕ) (x : Input) (events : List Handed) (v : ℕ) → CompletedAgainst l x events v → preferred x.table l ≡ Some v
chosen-from l x events v c =
    let g = (demand-3 x events v c.accepted c.acted).0 c.completed in
    let h : g.0 ≡ c.handshake = same_Some _ _ (sym g.1 ∙ c.first) in
    let i : g.2.information ≡ c.information =
    same_Some _ _ (sym g.2.well_formed ∙ ap (information_of v) h ∙ c.read) in
    sym (added x.table l c.handshake.in_use c.holds_version_in_use) ∙
    ap (λ (k : Handshake). preferred x.table (l ++ (k.in_use ∷ []))) (sym h) ∙
    ap (λ (m : List ℕ). preferred x.table (m ++ (g.0.in_use ∷ [])))
    (sym (ap (λ (j : VersionInformation). j.available) i ∙ c.against)) ∙
    g.2.would_choose

pub two-clients : (available : List ℕ) (x y : Input) (events others : List Handed) (v w : ℕ) →
    x.table ≡ y.table →  -- two such clients with one table
    CompletedAgainst available x events v →  -- both completed against the same Available list,
    CompletedAgainst available y others w →  -- and it holds the version in use at each:
    v ≡ w  -- they attempted the same version
two-clients l x y es fs v w same c d =
    same_Some v w
    (sym (chosen-from l x es v c) ∙ ap (λ (t : List ℕ). preferred t l) same ∙ chosen-from l y fs w d)
