-- A client's record along the events of an exchange: it waits, it acted, it has completed.
use Prim.Native.Nat.{ℕ}
use mathlib.Core.Bool.{true, false, or-true, false≢true}
use mathlib.Core.List.{List, [], ◌∷◌}
use Rattle.std.specs.Prelude.{None, Some}
use mathlib.Core.Path.{◌≡◌, refl, sym, ap, subst, ◌∙◌}
use borrow.Author.Tests.{not-true}
use Rattle.refusals.specs.Reply.{Reply.answered, refuse}
use Rattle.refusals.specs.declared.Call.TheVariants.{Reading}
use Rattle.refusals.proofs.Rules.{both_true, lowest-clear, lowest-applies}
use Rattle.journal.specs.declared.Journal.{Journal}
use Rattle.choosing.specs.Choice.{preferred}
use Rattle.choosing.proofs.Laws.{preferred-held}
use Rattle.invariants.specs.Header.{listed}
use Rattle.attempt.specs.Attempt.{table_of, closed_with, is_open, with_journal}
use Rattle.attempt.specs.Demand.{fits}
use Rattle.attempt.specs.Events.{Handed, journaled_run, Reachable}
use Rattle.attempt.specs.Journaled.{journaled, journaled_step}
use Rattle.attempt.specs.Start.{Input, Reads, is_accepted, start_of}
use Rattle.attempt.specs.Step.{Effect.acts, datagram_rules, unchanged, act_on, step_of, on_datagram}
use Rattle.attempt.specs.declared.Attempt.{Attempt}
use Rattle.attempt.specs.declared.End.TheVariants as end
use Rattle.attempt.specs.Event.{Event, Event.Datagram, Event.PacketProcessed, Event.Outcome}
use Rattle.attempt.proofs.Demand3.{start-accepted, opened-fresh}
use Rattle.attempt.proofs.Phases.{Fresh, Acted, put_reads, fresh-unchanged, acted-unchanged, late-datagram, fresh-fits, acted-processed, ended-run}
use Rattle.attempt.proofs.Reaching.{reachable-step}
use Rattle.attempt.proofs.Unread.{same_end}
use Rattle.both_ends.specs.Exchange.{is_ignored, all_ignored, is_no_outcome, no_outcome}

-- The journal is no part of a phase
noted-reads : {x : Input} {a : Attempt} (j : Journal) → Reads x a → Reads x (with_journal a j)
noted-reads j r =
    record { table = r.table; destination = r.destination; source = r.source; original = r.original; own = r.own }

noted-fresh : {x : Input} {a : Attempt} (j : Journal) → Fresh x a → Fresh x (with_journal a j)
noted-fresh j s = record { reads = noted-reads j s.reads; acted = s.acted; heard = s.heard; open? = s.open? }

noted-acted : {x : Input} {v : ℕ} {a : Attempt} (j : Journal) → Acted x v a → Acted x v (with_journal a j)
noted-acted j s =
    record { reads = noted-reads j s.reads; held = s.held; attempted = s.attempted; acted = s.acted; open? = s.open? }

-- ---- it waits

pub started : (x : Input) → is_accepted x ≡ true → Fresh x (start_of x).attempt
started x h = subst (Fresh x) (sym (start-accepted x h)) (opened-fresh x)

-- a datagram that does not fit leaves it waiting
fresh-ignores : (x : Input) (a : Attempt) (bytes : List ℕ) → Fresh x a → fits x bytes ≡ false → Fresh x (journaled_step a Datagram bytes).attempt
unfolding journaled_step step_of on_datagram
fresh-ignores x a bytes s f =
    lowest-applies (unchanged a) (act_on a (preferred (table_of a) (listed bytes))) (λ r. Fresh x (journaled r).attempt)
    (λ n. noted-fresh _ (fresh-unchanged n s)) (datagram_rules a bytes) (fresh-fits x a bytes s ∙ f)

pub ignored-run : (x : Input) (a : Attempt) (es : List Handed) → Fresh x a → all_ignored x es ≡ true → Fresh x (journaled_run a es)
unfolding journaled_run all_ignored
ignored-run x a [] s h = s
ignored-run x a (e ∷ es) s h =
    let both = both_true (is_ignored x e.event e.bytes) (all_ignored x es) h in
    go e.event both.0 (λ b t. ignored-run x b es t both.1)
  where
    go : (ev : Event) → is_ignored x ev e.bytes ≡ true → ((b : Attempt) → Fresh x b → Fresh x (journaled_run b es)) →
        Fresh x (journaled_run (journaled_step a ev e.bytes).attempt es)
    go Datagram q later = later _ (fresh-ignores x a e.bytes s (not-true _ q))
    go PacketProcessed q later = absurd (false≢true q)
    go (Outcome u p) q later = absurd (false≢true q)

-- on a datagram that fits it acts with the choice, or ends with 65 where there is none
fresh_step : (x : Input) (a : Attempt) (bytes : List ℕ) → Fresh x a → fits x bytes ≡ true →
    journaled_step a Datagram bytes ≡ journaled (act_on a (preferred x.table (listed bytes)))
unfolding journaled_step step_of on_datagram
fresh_step x a bytes s f =
    ap journaled
    (lowest-clear (unchanged a) (act_on a (preferred (table_of a) (listed bytes))) (datagram_rules a bytes) (fresh-fits x a bytes s ∙ f) ∙
    ap (λ (t : List ℕ). act_on a (preferred t (listed bytes))) s.reads.table)

pub fresh-acts : (x : Input) (a : Attempt) (bytes : List ℕ) (v : ℕ) → Fresh x a → fits x bytes ≡ true →
    preferred x.table (listed bytes) ≡ Some v →
    ((journaled_step a Datagram bytes).reply ≡ answered (acts v)) × Acted x v (journaled_step a Datagram bytes).attempt
fresh-acts x a bytes v s f p =
    rw (fresh_step x a bytes s f, p) (
      refl,
      noted-acted _
          (record {
            reads = put_reads _ _ _ _ s.reads;
            held = (preferred-held x.table (listed bytes) v p).0;
            attempted = refl;
            acted = refl;
            open? = s.open?;
          }),
    )

pub fresh-nothing : (x : Input) (a : Attempt) (bytes : List ℕ) → Fresh x a → fits x bytes ≡ true →
    preferred x.table (listed bytes) ≡ None →
    ((journaled_step a Datagram bytes).reply ≡ refuse Reading 65) × ((journaled_step a Datagram bytes).attempt.end ≡ closed_with 65)
fresh-nothing x a bytes s f p = rw (fresh_step x a bytes s f, p) (refl, refl)

-- ---- it acted

acted-step : (x : Input) (v : ℕ) (a : Attempt) (e : Event) (bytes : List ℕ) → Acted x v a → is_no_outcome e ≡ true →
    Acted x v (journaled_step a e bytes).attempt
unfolding journaled_step
acted-step x v a Datagram bytes s h =
    late-datagram a bytes (λ r. Acted x v (journaled r).attempt) (rw (s.acted, or-true) refl) (λ n. noted-acted _ (acted-unchanged n s))
acted-step x v a PacketProcessed bytes s h = noted-acted _ (acted-processed x v a bytes s)
acted-step x v a (Outcome u p) bytes s h = absurd (false≢true h)

pub acted-open : (x : Input) (v : ℕ) (a : Attempt) (es : List Handed) → Acted x v a → no_outcome es ≡ true → Acted x v (journaled_run a es)
unfolding journaled_run no_outcome
acted-open x v a [] s h = s
acted-open x v a (e ∷ es) s h =
    let both = both_true (is_no_outcome e.event) (no_outcome es) h in
    acted-open x v (journaled_step a e.event e.bytes).attempt es (acted-step x v a e.event e.bytes s both.0) both.1

-- ---- it has completed

pub completed-stays : (a : Attempt) (es : List Handed) (u : ℕ) → a.end ≡ end.Completed u → (journaled_run a es).end ≡ end.Completed u
completed-stays a es u h = same_end a es ∙ ended-run a es (ap is_open h) ∙ h

-- ---- its premise

pub reachable-run : (a : Attempt) (es : List Handed) → Reachable a → Reachable (journaled_run a es)
unfolding journaled_run
reachable-run a [] r = r
reachable-run a (e ∷ es) r =
    reachable-run (journaled_step a e.event e.bytes).attempt es (reachable-step a e.event e.bytes r)

pub reachable-start : (x : Input) → is_accepted x ≡ true → Reachable (start_of x).attempt
unfolding journaled_run
reachable-start x h = record { input = x; accepted = h; events = []; reached = refl }
