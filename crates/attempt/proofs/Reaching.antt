-- Every step keeps its premise: the record is a start's, changed since by events alone.
use Prim.Native.Nat.{ℕ}
use mathlib.Core.List.{List, [], ◌∷◌, ◌++◌}
use mathlib.Core.Path.{◌≡◌, refl, ap, ◌∙◌}
use Rattle.attempt.specs.Events.{Handed, journaled_run, Reachable}
use Rattle.attempt.specs.Journaled.{journaled_step}
use Rattle.attempt.specs.Start.{start_of}
use Rattle.attempt.specs.Step.{After, shown}
use Rattle.attempt.specs.declared.Attempt.{Attempt}
use Rattle.attempt.specs.Event.{Event}
use Rattle.attempt.specs.declared.Stepped.{Stepped}

pub run-append : (a : Attempt) (es fs : List Handed) → journaled_run a (es ++ fs) ≡ journaled_run (journaled_run a es) fs
unfolding journaled_run
run-append a [] fs = refl
run-append a (e ∷ es) fs = run-append (journaled_step a e.event e.bytes).attempt es fs

pub reachable-step : (a : Attempt) (e : Event) (bs : List ℕ) → Reachable a → Reachable (journaled_step a e bs).attempt
unfolding journaled_run
reachable-step a e bs r =
    let last : List Handed = record { event = e; bytes = bs } ∷ [] in
    record {
      input = r.input;
      accepted = r.accepted;
      events = r.events ++ last;
      reached =
          run-append (start_of r.input).attempt r.events last ∙
          ap (λ (b : Attempt). (journaled_step b e bs).attempt) r.reached;
    }

-- the record that a step handed back
pub reachable-shown : (a : Attempt) (e : Event) (bs : List ℕ) (s : Stepped) → Reachable a →
    shown s ≡ journaled_step a e bs → Reachable s.attempt
reachable-shown a e bs s r q =
    rw (ap (λ (f : After). f.attempt) q) (reachable-step a e bs r)
