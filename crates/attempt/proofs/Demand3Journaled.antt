-- Demand 3 over the steps that note each answer (document 02, C-20), which the contract of the public step equates. The
-- statements are those of Demand3.antt with `journaled_run` for `run`, and follow by one equation, since the two runs have the
-- same end mark (`same_end`).
use Prim.Native.Nat.{ℕ}
use mathlib.Core.Bool.{Bool, true}
use mathlib.Core.List.{List}
use mathlib.Core.Logic.{◌↔◌}
use Rattle.std.specs.Prelude.{Some}
use mathlib.Core.Path.{◌≡◌, ap, subst}
use Rattle.attempt.specs.Attempt.{is_completed}
use Rattle.attempt.specs.Demand.{acted_with, Handshake, first_outcome, Good, CompletedBy, CompletedAgainst, JournaledCompletedAgainst}
use Rattle.attempt.specs.Events.{Handed, journaled_run}
use Rattle.attempt.specs.Start.{Input, is_accepted, start_of}
use Rattle.attempt.proofs.Demand3.{demand-3, two-clients}
use Rattle.attempt.proofs.Unread.{same_end}

pub demand-3-journaled : (x : Input) (events : List Handed) (attempted : ℕ) →
    is_accepted x ≡ true →  -- for every start that isn't refused
    acted_with x events ≡ Some attempted →  -- a client that acted on a Version Negotiation packet
    (is_completed (journaled_run (start_of x).attempt events).end ≡ true) ↔  -- has completed exactly when
    ((h : Handshake) × (first_outcome events ≡ Some h) ×  -- it was handed an outcome
    Good x attempted h)  -- and the first one was good
demand-3-journaled x events v accepted acted =
    rw (same_end (start_of x).attempt events) (demand-3 x events v accepted acted)

-- What is known of a client that completed by document 01's steps is known of one that completed by the steps that note
pub journaled-against : (available : List ℕ) (x : Input) (events : List Handed) (v : ℕ) →
    JournaledCompletedAgainst available x events v → CompletedAgainst available x events v
journaled-against available x events v c =
    subst (λ (b : Bool). CompletedBy b available x events v) (ap is_completed (same_end (start_of x).attempt events)) c

pub two-clients-journaled : (available : List ℕ) (x y : Input) (events others : List Handed) (v w : ℕ) →
    x.table ≡ y.table →  -- two such clients with one table
    JournaledCompletedAgainst available x events v →  -- both completed against the same Available list,
    JournaledCompletedAgainst available y others w →  -- and it holds the version in use at each:
    v ≡ w  -- they attempted the same version
two-clients-journaled l x y events others v w same c d =
    two-clients l x y events others v w same (journaled-against l x events v c) (journaled-against l y others w d)
