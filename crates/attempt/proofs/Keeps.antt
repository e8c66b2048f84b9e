-- What every attempt keeps: what a start makes and no event loses holds of every attempt. So does what is judged of any
-- record value: counts within their arrays, and an attempted version of the table. The blank record of a refused start
-- is no attempt.
use Prim.Native.Nat.{ℕ, ◌≤◌}
use mathlib.Core.Bool.{Bool, true, false, cond, not, ◌&&◌, and-false, or-true, false≢true}
use mathlib.Core.List.{List, [], ◌∷◌}
use Rattle.std.specs.Prelude.{Option, None, Some}
use mathlib.Core.Path.{◌≡◌, refl, sym, subst, ◌∙◌}
use native.Mathlib.Omega.{arith}
use lib.Dec.{leb, ltb}
use lib.ListN.{length}
use borrow.Author.Tests.{ltb-true, ltb-false, not-false, le-leb}
use Rattle.refusals.specs.Rule.{Rule, Rule.◌when◌, lowest}
use Rattle.refusals.proofs.Rules.{both_true, lowest-any}
use Rattle.choosing.specs.Choice.{preferred}
use Rattle.choosing.proofs.Laws.{preferred-held}
use Rattle.versions.specs.Limits.{max_table}
use Rattle.versions.specs.Table.{elem, table_keeps_rule}
use Rattle.versions.proofs.Lists.{table-counts}
use Rattle.invariants.specs.Header.{listed}
use Rattle.journal.specs.declared.Journal.{Journal}
use Rattle.information.specs.Presence.{Presence, Presence.Missing, Presence.Given}
use Rattle.attempt.specs.Attempt.{table_of, is_open, put, with_journal}
use Rattle.attempt.specs.Events.{Handed, journaled_run, Reachable}
use Rattle.attempt.specs.Journaled.{journaled_step}
use Rattle.attempt.specs.Limits.{max_id, not_a_record}
use Rattle.attempt.specs.Start.{Input, is_accepted, start_of, opened, blank}
use Rattle.attempt.specs.Step.{After, Effect.notes, act_on, after, closed, completed, unchanged, datagram_rules, missing_rules, information_rules}
use Rattle.attempt.specs.Step.{on_datagram, on_outcome, on_processed, step_of, counts_fit, could_be_attempt}
use Rattle.attempt.specs.declared.Attempt.{Attempt}
use Rattle.attempt.specs.Event.{Event, Event.Datagram, Event.PacketProcessed, Event.Outcome}
use Rattle.attempt.proofs.Demand3.{start-accepted}
use Rattle.attempt.proofs.Phases.{opened-reads}

-- The numbers of the rules pass a test: that they are bytes, and here below 255 too, the number outside document 01

abbrev pub below_outside : ℕ → Bool
below_outside n = ltb n not_a_record

abbrev pub numbers_pass : List Rule → Bool
numbers_pass [] = true
numbers_pass ((n when b) ∷ rules) = below_outside n && numbers_pass rules

pub lowest-passing : {B : Type 0} (refusal : ℕ → B) (other : B) (P : B → Type 0) →
    ((n : ℕ) → below_outside n ≡ true → P (refusal n)) → P other → (rules : List Rule) → numbers_pass rules ≡ true →
    P (lowest refusal rules other)
lowest-passing refusal other P each last [] h = last
lowest-passing refusal other P each last ((n when true) ∷ rules) h = each n (both_true (below_outside n) _ h).0
lowest-passing refusal other P each last ((n when false) ∷ rules) h =
    lowest-passing refusal other P each last rules (both_true (below_outside n) _ h).1

missing-passes : (acted : Bool) (a : Attempt) (u : ℕ) → numbers_pass (missing_rules acted a u) ≡ true
missing-passes true a u = refl
missing-passes false a u = refl

pub outcome-passes : (a : Attempt) (u : ℕ) (p : Presence) (bytes : List ℕ) → numbers_pass (information_rules a u p bytes) ≡ true
outcome-passes a u Missing bytes = missing-passes a.acted a u
outcome-passes a u Given bytes = refl

-- such a number is a byte
below-byte : (n : ℕ) → below_outside n ≡ true → leb n 255 ≡ true
below-byte n h = let l = ltb-true n not_a_record h in le-leb n 255 (omega (arith, l))

-- What holds of a record, and of it after each thing that an event may do to it
pub record Keeps (P : Attempt → Type 0) (a : Attempt) : Type 0 where
  pub stays : (n : ℕ) → P (unchanged a n).attempt
  pub acts : (v : ℕ) → elem v (table_of a) ≡ true → P (put a v true a.heard a.end)
  pub notes : P (put a a.attempted a.acted true a.end)
  pub closes : (n : ℕ) → leb n 255 ≡ true → P (closed a n).attempt
  pub completes : (v : ℕ) → P (completed a v).attempt

-- holds after an event
module _ (P : Attempt → Type 0) (a : Attempt) (k : Keeps P a) where
  abbrev Held : After → Type 0
  Held s = P s.attempt

  acted-keeps : (list : List ℕ) (o : Option ℕ) → preferred (table_of a) list ≡ o → Held (act_on a o)
  acted-keeps list None e = k.closes 65 refl
  acted-keeps list (Some v) e = k.acts v (preferred-held (table_of a) list v e).0

  -- an outcome, on an open attempt and on an ended one
  outcome-keeps : (b : Bool) (rules : List Rule) (u : ℕ) → numbers_pass rules ≡ true →
      Held (cond b (lowest (closed a) rules (completed a u)) (unchanged a 62))
  outcome-keeps true rules u h =
      lowest-passing (closed a) (completed a u) Held (λ n below. k.closes n (below-byte n below)) (k.completes u) rules h
  outcome-keeps false rules u h = k.stays 62

  pub step_keeps : (e : Event) (bytes : List ℕ) → Held (step_of a e bytes)
  unfolding step_of on_datagram on_processed on_outcome
  step_keeps Datagram bytes =
      lowest-any (unchanged a) (act_on a (preferred (table_of a) (listed bytes))) Held k.stays
      (acted-keeps (listed bytes) (preferred (table_of a) (listed bytes)) refl)
      (datagram_rules a bytes)
  step_keeps PacketProcessed bytes =
      lowest-any (unchanged a) (after (put a a.attempted a.acted true a.end) notes) Held k.stays k.notes
      ((62 when not (is_open a.end)) ∷ [])
  step_keeps (Outcome u p) bytes =
      outcome-keeps (is_open a.end) (information_rules a u p bytes) u (outcome-passes a u p bytes)

-- and what also holds of each accepted start's record, and does not read the journal, holds of every attempt
module _ (P : Attempt → Type 0) (unread : (a : Attempt) (j : Journal) → P a → P (with_journal a j))
    (keeps : (a : Attempt) → P a → Keeps P a) where
  run-keeps : (a : Attempt) (es : List Handed) → P a → P (journaled_run a es)
  unfolding journaled_run journaled_step
  run-keeps a [] holds = holds
  run-keeps a (e ∷ es) holds =
      run-keeps (journaled_step a e.event e.bytes).attempt es
      (unread (step_of a e.event e.bytes).attempt _ (step_keeps P a (keeps a holds) e.event e.bytes))

  pub every-attempt : ((x : Input) → is_accepted x ≡ true → P (opened x)) → (a : Attempt) → Reachable a → P a
  every-attempt opens a r =
      let x = r.input in
      let started : P (start_of x).attempt = subst P (sym (start-accepted x r.accepted)) (opens x r.accepted) in
      subst P r.reached (run-keeps (start_of x).attempt r.events started)

-- An accepted start breaks no rule
not-broken : {accepted : Bool} (broken : Bool) → (broken ≡ true → accepted ≡ false) → accepted ≡ true → broken ≡ false
not-broken true refuses h = absurd (false≢true (sym (refuses refl) ∙ h))
not-broken false refuses h = refl

pub start-keeps : (x : Input) → is_accepted x ≡ true → table_keeps_rule x.table ≡ true
start-keeps x h = not-false _ (not-broken (not (table_keeps_rule x.table)) (λ e. simp (e, and-false)) h)

pub start-original : (x : Input) → is_accepted x ≡ true → elem x.original x.table ≡ true
start-original x h = not-false _ (not-broken (not (elem x.original x.table)) (λ e. simp (e, and-false)) h)

-- What is judged of any record value holds of every attempt

abbrev Passing : Attempt → Type 0
Passing a = could_be_attempt a ≡ true

pub passing_kept : (a : Attempt) → Passing a → Keeps Passing a
passing_kept a c =
    let counts = (both_true (counts_fit a) _ c).0 in
    record {
      stays = λ n. c;
      acts = λ v held. rw (counts, held);
      notes = c;
      closes = λ n byte. c;
      completes = λ v. c;
    }

opened-passes : (x : Input) → is_accepted x ≡ true → Passing (opened x)
unfolding opened
opened-passes x h =
    let destination = not-broken (ltb max_id (length x.destination)) (λ e. simp (e, and-false)) h in
    let source = not-broken (ltb max_id (length x.source)) (λ e. simp (e, or-true, and-false)) h in
    let counts = table-counts x.table (start-keeps x h) in
    fits counts.1 (ltb-false _ _ destination) (ltb-false _ _ source) (start-original x h)
  where
    fits : length x.table ≤ max_table → length x.destination ≤ max_id → length x.source ≤ max_id →
        elem x.original x.table ≡ true → Passing (opened x)
    fits t d s o = rw (le-leb _ _ t, le-leb _ _ d, le-leb _ _ s, (opened-reads x).table, o)

pub start-passes : (x : Input) → is_accepted x ≡ true → Passing (start_of x).attempt
start-passes x h = subst Passing (sym (start-accepted x h)) (opened-passes x h)

pub reachable-passes : {a : Attempt} → Reachable a → Passing a
reachable-passes {a} r = every-attempt Passing (λ a j p. p) passing_kept opened-passes a r

-- No event's premise holds of the blank record of a refused start, and none is judged on it
pub blank-refused : could_be_attempt blank ≡ false
unfolding blank elem
blank-refused = refl

pub blank-not-reachable : Reachable blank → ⊥
blank-not-reachable r = false≢true (sym blank-refused ∙ reachable-passes r)
