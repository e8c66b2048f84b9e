-- No event on any record value completes it with a version outside its table: whatever memory a host hands over, a
-- version that the client does not support is never settled on.
use Prim.Native.Nat.{ℕ}
use mathlib.Core.Bool.{Bool, true, false, cond, not, false≢true}
use mathlib.Core.List.{List, [], ◌∷◌}
use Rattle.std.specs.Prelude.{Option, None, Some}
use mathlib.Core.Path.{◌≡◌, refl, sym, ap, ◌∙◌}
use lib.Dec.{eqb}
use borrow.Author.Tests.{eqb-true, not-false, not-true}
use Rattle.refusals.specs.Rule.{Rule.◌when◌, lowest, clear}
use Rattle.refusals.proofs.Rules.{both_true, clear-append, lowest-any, lowest-clear}
use Rattle.versions.specs.Table.{elem}
use Rattle.versions.proofs.Members.{members-held}
use Rattle.choosing.specs.Choice.{preferred}
use Rattle.invariants.specs.Header.{listed}
use Rattle.information.specs.Information.{chosen_of, available_of, form_rules}
use Rattle.information.specs.Presence.{Presence, Presence.Missing, Presence.Given}
use Rattle.attempt.specs.Attempt.{table_of, own_of, is_open, is_completed, put}
use Rattle.attempt.specs.Limits.{not_a_record}
use Rattle.attempt.specs.OwnList.{word_of}
use Rattle.attempt.specs.Step.{After, Effect.notes, unchanged, closed, completed, after, act_on, datagram_rules}
use Rattle.attempt.specs.Step.{outcome_rules, missing_rules, information_rules, on_datagram, on_processed}
use Rattle.attempt.specs.Step.{step_of, step_of_any, counts_fit, could_be_attempt}
use Rattle.attempt.specs.declared.Attempt.{Attempt}
use Rattle.attempt.specs.declared.End.{End}
use Rattle.attempt.specs.declared.End.TheVariants as end
use Rattle.attempt.specs.Event.{Event, Event.Datagram, Event.PacketProcessed, Event.Outcome}
use Rattle.attempt.proofs.Phases.{completes-clear, open-outcome}

-- The version that an end mark says completed
abbrev version_in : End → ℕ → ℕ
version_in end.Open other = other
version_in (end.Completed v) other = v
version_in (end.Closed r) other = other

module _ (a : Attempt) (in_table : elem a.attempted (table_of a) ≡ true) where
  -- 72 and 73: Chosen is in the own list, and is the version in use
  judged-by-table : (u c : ℕ) (l : List ℕ) → clear (outcome_rules a u c l) ≡ true → elem u (table_of a) ≡ true
  unfolding own_of
  judged-by-table u c l h =
      let ours = both_true (not (not (elem c (own_of a)))) _ h in
      let used = both_true (not (not (eqb c u))) _ ours.1 in
      let same : c ≡ u = eqb-true c u (not-false _ (not-true _ used.0)) in
      let held : elem c (table_of a) ≡ true =
      members-held (word_of (table_of a) a.rows a.attempted) (table_of a) c (not-false _ (not-true _ ours.0)) in
      ap (λ (w : ℕ). elem w (table_of a)) (sym same) ∙ held

  missing-in-table : (acted : Bool) (u : ℕ) → clear (missing_rules acted a u) ≡ true → elem u (table_of a) ≡ true
  missing-in-table true u h = judged-by-table u 1 (1 ∷ []) (both_true (not (not (eqb a.attempted 1))) _ h).1
  missing-in-table false u h =
      let same : a.attempted ≡ u = eqb-true _ _ (not-false _ (not-true _ (both_true (not (not (eqb a.attempted u))) _ h).0)) in
      ap (λ (w : ℕ). elem w (table_of a)) (sym same) ∙ in_table

  in-table : (u : ℕ) (p : Presence) (bytes : List ℕ) → clear (information_rules a u p bytes) ≡ true → elem u (table_of a) ≡ true
  in-table u Missing bytes h = missing-in-table a.acted u h
  in-table u Given bytes h =
      judged-by-table u (chosen_of bytes) (available_of bytes)
      (both_true (clear (form_rules bytes)) _
      (sym (clear-append (form_rules bytes) (outcome_rules a u (chosen_of bytes) (available_of bytes))) ∙ h)).1

  -- an outcome completes with the version in use, where no rule applies
  outcome-in-table : (u : ℕ) (p : Presence) (bytes : List ℕ) (v : ℕ) → a.end ≡ end.Open →
      (step_of a (Outcome u p) bytes).attempt.end ≡ end.Completed v → elem v (table_of a) ≡ true
  outcome-in-table u p bytes v still_Open e =
      let rules = information_rules a u p bytes in
      let judged = lowest (closed a) rules (completed a u) in
      let ends : judged.attempt.end ≡ end.Completed v =
      sym (ap (λ (s : After). s.attempt.end) (open-outcome a u p bytes still_Open)) ∙ e in
      let none-applies : clear rules ≡ true = sym (completes-clear a u rules) ∙ ap is_completed ends in
      let same : u ≡ v =
      ap (λ (d : End). version_in d 0)
      (sym (ap (λ (s : After). s.attempt.end) (lowest-clear (closed a) (completed a u) rules none-applies)) ∙ ends) in
      ap (λ (w : ℕ). elem w (table_of a)) (sym same) ∙ in-table u p bytes none-applies

  -- no other event completes anything
  act-not-completed : (o : Option ℕ) → a.end ≡ end.Open → is_completed (act_on a o).attempt.end ≡ false
  act-not-completed None still_Open = refl
  act-not-completed (Some v) still_Open = ap is_completed still_Open

  step-in-table : (e : Event) (bytes : List ℕ) (v : ℕ) → a.end ≡ end.Open →
      (step_of a e bytes).attempt.end ≡ end.Completed v → elem v (table_of a) ≡ true
  unfolding step_of on_datagram on_processed
  step-in-table Datagram bytes v still_Open e =
      absurd
      (false≢true
      (sym
      (lowest-any (unchanged a) (act_on a (preferred (table_of a) (listed bytes)))
      (λ (s : After). is_completed s.attempt.end ≡ false) (λ n. ap is_completed still_Open)
      (act-not-completed (preferred (table_of a) (listed bytes)) still_Open) (datagram_rules a bytes)) ∙
      ap is_completed e))
  step-in-table PacketProcessed bytes v still_Open e =
      absurd
      (false≢true
      (sym
      (lowest-any (unchanged a) (after (put a a.attempted a.acted true a.end) notes)
      (λ (s : After). is_completed s.attempt.end ≡ false) (λ n. ap is_completed still_Open) (ap is_completed still_Open)
      ((62 when not (is_open a.end)) ∷ [])) ∙
      ap is_completed e))
  step-in-table (Outcome u p) bytes v still_Open e = outcome-in-table u p bytes v still_Open e

-- For every record value: if an open record becomes completed, its version is in its table.
pub completed-in-table : (a : Attempt) (e : Event) (bytes : List ℕ) (v : ℕ) → a.end ≡ end.Open →
    (step_of_any a e bytes).attempt.end ≡ end.Completed v → elem v (table_of a) ≡ true
unfolding step_of_any
completed-in-table a e bytes v still_Open h = go (could_be_attempt a) refl
  where
    go : (b : Bool) → could_be_attempt a ≡ b → elem v (table_of a) ≡ true
    go true passes =
        step-in-table a (both_true (counts_fit a) _ passes).1 e bytes v still_Open
        (sym (ap (λ (b : Bool). (cond b (step_of a e bytes) (unchanged a not_a_record)).attempt.end) passes) ∙ h)
    go false fails =
        absurd
        (false≢true
        (sym (ap is_completed still_Open) ∙
        ap is_completed
        (sym (ap (λ (b : Bool). (cond b (step_of a e bytes) (unchanged a not_a_record)).attempt.end) fails) ∙ h)))
