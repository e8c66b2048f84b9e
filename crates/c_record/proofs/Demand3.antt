-- Demand 3 for those who hold a C record, over `start_record` and lists of `step_record` calls, the definitions that the
-- contracts of `start_record` and `step_record` equate; "has completed" is read from the end mark of the record. And
-- that no event on any record whatever completes it with a version outside its table.
use Prim.Native.Nat.{ℕ}
use mathlib.Core.Bool.{Bool, true, false, cond, false≢true}
use mathlib.Core.List.{List}
use mathlib.Core.Logic.{◌↔◌}
use Rattle.std.specs.Prelude.{Option, None, Some}
use mathlib.Core.Path.{◌≡◌, refl, sym, ap, subst, ◌∙◌}
use lib.Dec.{eqb}
use lib.ListN.{take}
use Rattle.versions.specs.Table.{elem}
use Rattle.attempt.specs.Attempt.{is_completed}
use Rattle.attempt.specs.Demand.{acted_with, Handshake, first_outcome, Good, CompletedBy, JournaledCompletedAgainst}
use Rattle.attempt.specs.Events.{journaled_run}
use Rattle.attempt.specs.Journaled.{journaled_step}
use Rattle.attempt.specs.Start.{Input, is_accepted, start_of}
use Rattle.attempt.specs.Step.{After}
use Rattle.attempt.specs.declared.End.{End}
use Rattle.attempt.specs.declared.End.TheVariants.{Open, Completed, Closed}
use Rattle.attempt.specs.Event.{Event}
use Rattle.attempt.proofs.Completing.{completed-in-table}
use Rattle.attempt.proofs.Demand3Journaled.{demand-3-journaled, two-clients-journaled}
use Rattle.client_verdict.proofs.Judged.{any-accepted}
use Rattle.c_record.specs.Calls.{EventCall, run_calls, events_of, has_completed, RecordCompletedAgainst}
use Rattle.c_record.specs.Records.{mark_of, mark_value, is_record, attempt_of, record_of, event_of, step_record, start_record, event_on, as_found}
use Rattle.c_record.specs.declared.Record.{Record}
use Rattle.c_record.proofs.Lossless.{same-from-start}
use Rattle.c_record.proofs.Records.{record-parts}

-- The end mark tells completed from closed
mark-completed : (e : End) → eqb (mark_of e) 1 ≡ is_completed e
mark-completed Open = refl
mark-completed (Completed v) = refl
mark-completed (Closed n) = refl

same-completed : (x : Input) (calls : List EventCall) → is_accepted x ≡ true →
    has_completed (run_calls (start_record x).left calls) ≡ is_completed (journaled_run (start_of x).attempt (events_of calls)).end
unfolding record_of
same-completed x calls h =
    ap has_completed (same-from-start x calls h) ∙ mark-completed (journaled_run (start_of x).attempt (events_of calls)).end

pub demand-3-record : (x : Input) (calls : List EventCall) (attempted : ℕ) →
    is_accepted x ≡ true →  -- for every start that isn't refused
    acted_with x (events_of calls) ≡ Some attempted →  -- a client that acted on a Version Negotiation packet
    (has_completed (run_calls (start_record x).left calls) ≡ true) ↔  -- has completed exactly when
    ((h : Handshake) × (first_outcome (events_of calls) ≡ Some h) ×  -- it was handed an outcome
    Good x attempted h)  -- and the first one was good
demand-3-record x calls v accepted acted =
    let d = demand-3-journaled x (events_of calls) v accepted acted in
    let e = same-completed x calls accepted in
    ((λ c. d.0 (sym e ∙ c)), (λ g. e ∙ d.1 g))

against : (available : List ℕ) (x : Input) (calls : List EventCall) (v : ℕ) → RecordCompletedAgainst available x calls v →
    JournaledCompletedAgainst available x (events_of calls) v
against available x calls v c =
    subst (λ (b : Bool). CompletedBy b available x (events_of calls) v) (same-completed x calls c.accepted) c

pub two-clients-record : (available : List ℕ) (x y : Input) (calls others : List EventCall) (v w : ℕ) →
    x.table ≡ y.table →  -- two such clients with one table
    RecordCompletedAgainst available x calls v →  -- both completed against the same Available list,
    RecordCompletedAgainst available y others w →  -- and it holds the version in use at each:
    v ≡ w  -- they attempted the same version
two-clients-record l x y calls others v w same c d =
    two-clients-journaled l x y (events_of calls) (events_of others) v w same (against l x calls v c) (against l y others w d)

-- Any record whatever

mark-one : (e : End) → eqb (mark_of e) 1 ≡ true → e ≡ Completed (mark_value e)
mark-one Open h = absurd (false≢true h)
mark-one (Completed v) h = refl
mark-one (Closed n) h = absurd (false≢true h)

-- If an open record becomes completed, its version is in its table.
pub record-completed-in-table : (r : Record) (kind value : ℕ) (bytes : List ℕ) → r.end_mark ≡ 0 →
    let left = (step_record r kind value bytes).left in
    has_completed left ≡ true → elem left.end_value (take r.table_len r.table) ≡ true
unfolding step_record attempt_of record_of journaled_step
record-completed-in-table r kind value bytes zero h = go (is_record r) refl (event_of kind value) h
  where
    absent : has_completed r ≡ true → ⊥
    absent e = false≢true (sym (ap (λ (m : ℕ). eqb m 1) zero) ∙ e)

    go : (b : Bool) → is_record r ≡ b → (o : Option Event) →
        let left = (cond b (event_on r bytes o) (as_found r)).left in
        has_completed left ≡ true → elem left.end_value (take r.table_len r.table) ≡ true
    go false f o e = absurd (absent e)
    go true f None e = absurd (absent e)
    go true f (Some ev) e =
        let a = attempt_of r in
        let opened : a.end ≡ Open = rw zero in
        let ends = mark-one (journaled_step a ev bytes).attempt.end e in
        let passes = (record-parts r f).1 in
        completed-in-table a ev bytes _ opened
        (sym (ap (λ (s : After). s.attempt.end) (any-accepted a ev bytes passes)) ∙ ends)
