-- Demand 3 and the journal for a lent record: what lies there after a list of events is what the steps by value hand back.
use Prim.Native.Nat.{ℕ}
use mathlib.Core.Bool.{true}
use mathlib.Core.List.{List, [], ◌∷◌}
use mathlib.Core.Logic.{◌↔◌}
use Rattle.std.specs.Prelude.{Some}
use mathlib.Core.Path.{◌≡◌, refl, sym, subst, ap, ◌∙◌}
use Rattle.journal.specs.Journals.{journal_of}
use Rattle.attempt.specs.Attempt.{is_completed}
use Rattle.attempt.specs.Demand.{CompletedBy, Good, Handshake, acted_with, first_outcome}
use Rattle.attempt.specs.Events.{Handed, journaled_run, answers_to}
use Rattle.attempt.specs.Journaled.{journaled_step}
use Rattle.attempt.specs.Start.{Input, is_accepted, start_of}
use Rattle.attempt.specs.declared.Attempt.{Attempt}
use Rattle.attempt.proofs.Demand3Journaled.{demand-3-journaled, two-clients-journaled}
use Rattle.attempt.proofs.Journaled.{journal-after}
use Rattle.client_in_place.specs.Events.{LeftByAll}

pub in-place-run : (a : Attempt) (events : List Handed) (left : Attempt) → LeftByAll a events left → left ≡ journaled_run a events
unfolding LeftByAll journaled_run
in-place-run a [] left e = e
in-place-run a (e ∷ es) left (next, one, all) = in-place-run next es left all ∙ ap (λ (b : Attempt). journaled_run b es) one

-- Every list of events leaves such a record
pub run-in-place : (a : Attempt) (events : List Handed) → LeftByAll a events (journaled_run a events)
unfolding LeftByAll journaled_run
run-in-place a [] = refl
run-in-place a (e ∷ es) =
    let next : Attempt = (journaled_step a e.event e.bytes).attempt in
    (next, refl, run-in-place next es)

pub demand-3-in-place : (x : Input) (events : List Handed) (attempted : ℕ) (left : Attempt) →
    is_accepted x ≡ true →  -- for every start that isn't refused
    acted_with x events ≡ Some attempted →  -- a client that acted on a Version Negotiation packet
    LeftByAll (start_of x).attempt events left →  -- by the record that lies there
    (is_completed left.end ≡ true) ↔  -- has completed exactly when
    ((h : Handshake) × (first_outcome events ≡ Some h) ×  -- it was handed an outcome
    Good x attempted h)  -- and the first one was good
demand-3-in-place x events v left accepted acted all =
    subst
    (λ (a : Attempt). (is_completed a.end ≡ true) ↔ ((h : Handshake) × (first_outcome events ≡ Some h) × Good x v h))
    (sym (in-place-run (start_of x).attempt events left all)) (demand-3-journaled x events v accepted acted)

pub two-clients-in-place : (available : List ℕ) (x y : Input) (events others : List Handed) (left right : Attempt) (v w : ℕ) →
    x.table ≡ y.table →  -- two such clients with one table
    LeftByAll (start_of x).attempt events left →  -- by the records that lie there
    LeftByAll (start_of y).attempt others right →
    CompletedBy (is_completed left.end) available x events v →  -- both completed against the same Available list,
    CompletedBy (is_completed right.end) available y others w →  -- and it holds the version in use at each:
    v ≡ w  -- they attempted the same version
two-clients-in-place l x y events others left right v w same all others-all c d =
    two-clients-journaled l x y events others v w same
    (subst (λ (a : Attempt). CompletedBy (is_completed a.end) l x events v) (in-place-run (start_of x).attempt events left all) c)
    (subst (λ (a : Attempt). CompletedBy (is_completed a.end) l y others w) (in-place-run (start_of y).attempt others right others-all) d)

-- The journal that lies there after a list of events is that of the numbers that they were answered with
pub journal-in-place : (x : Input) (events : List Handed) (left : Attempt) → LeftByAll (start_of x).attempt events left →
    left.journal ≡ journal_of (answers_to (start_of x).attempt events)
journal-in-place x events left all =
    ap (λ (a : Attempt). a.journal) (in-place-run (start_of x).attempt events left all) ∙ journal-after x events
