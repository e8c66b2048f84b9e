-- The step of document 01 does not read the journal: with another journal it does the same but for the journal. So a run
-- that notes each answer is the run that does not, but for the journal (`same-run`), and its end mark is the same.
use Prim.Native.Nat.{ℕ}
use mathlib.Core.Bool.{Bool, true, false, cond, not}
use mathlib.Core.List.{List, [], ◌∷◌}
use Rattle.std.specs.Prelude.{Option, None, Some}
use mathlib.Core.Path.{◌≡◌, refl, sym, ap, ◌∙◌}
use Rattle.refusals.specs.Rule.{Rule, Rule.◌when◌, lowest}
use Rattle.journal.specs.declared.Journal.{Journal}
use Rattle.choosing.specs.Choice.{preferred}
use Rattle.invariants.specs.Header.{listed}
use Rattle.information.specs.Presence.{Presence, Presence.Missing, Presence.Given}
use Rattle.attempt.specs.Attempt.{table_of, own_of, is_open, put, with_journal}
use Rattle.attempt.specs.Events.{Handed, run, journaled_run}
use Rattle.attempt.specs.Journaled.{journaled_step}
use Rattle.attempt.specs.Step.{After, Effect.notes, after, unchanged, closed, completed, act_on}
use Rattle.attempt.specs.Step.{datagram_rules, missing_rules, information_rules, step_of, on_datagram, on_processed, on_outcome}
use Rattle.attempt.specs.declared.Attempt.{Attempt}
use Rattle.attempt.specs.Event.{Event, Event.Datagram, Event.PacketProcessed, Event.Outcome}

abbrev handed_on : Journal → After → After
handed_on j s = record { attempt = with_journal s.attempt j; reply = s.reply }

module _ (j : Journal) (a : Attempt) where
  -- rules that make of each refusal the same but for the journal
  lowest-on : (refusal refusal' : ℕ → After) → ((n : ℕ) → refusal' n ≡ handed_on j (refusal n)) → (rules : List Rule) →
      (other other' : After) → other' ≡ handed_on j other → lowest refusal' rules other' ≡ handed_on j (lowest refusal rules other)
  lowest-on refusal refusal' each [] other other' last = last
  lowest-on refusal refusal' each ((n when true) ∷ rules) other other' last = each n
  lowest-on refusal refusal' each ((n when false) ∷ rules) other other' last =
      lowest-on refusal refusal' each rules other other' last

  acts-on : (o : Option ℕ) → act_on (with_journal a j) o ≡ handed_on j (act_on a o)
  acts-on None = refl
  acts-on (Some v) = refl

  ends_on : (open? : Bool) (rules : List Rule) (u : ℕ) →
      cond open? (lowest (closed (with_journal a j)) rules (completed (with_journal a j) u)) (unchanged (with_journal a j) 62) ≡
      handed_on j (cond open? (lowest (closed a) rules (completed a u)) (unchanged a 62))
  ends_on true rules u = lowest-on (closed a) (closed (with_journal a j)) (λ n. refl) rules _ _ refl
  ends_on false rules u = refl

  -- 31 to 35 and 71 to 75
  same-missing : (acted : Bool) (u : ℕ) → missing_rules acted (with_journal a j) u ≡ missing_rules acted a u
  unfolding own_of
  same-missing true u = refl
  same-missing false u = refl

  same-rules : (u : ℕ) (p : Presence) (bytes : List ℕ) → information_rules (with_journal a j) u p bytes ≡ information_rules a u p bytes
  unfolding own_of
  same-rules u Missing bytes = same-missing a.acted u
  same-rules u Given bytes = refl

  pub ignores : (e : Event) (bytes : List ℕ) → step_of (with_journal a j) e bytes ≡ handed_on j (step_of a e bytes)
  unfolding step_of on_datagram on_processed on_outcome
  ignores Datagram bytes =
      lowest-on (unchanged a) (unchanged (with_journal a j)) (λ n. refl) (datagram_rules a bytes) _ _
      (acts-on (preferred (table_of a) (listed bytes)))
  ignores PacketProcessed bytes =
      lowest-on (unchanged a) (unchanged (with_journal a j)) (λ n. refl) ((62 when not (is_open a.end)) ∷ [])
      (after (put a a.attempted a.acted true a.end) notes) _ refl
  ignores (Outcome u p) bytes = rw (same-rules u p bytes) (ends_on (is_open a.end) (information_rules a u p bytes) u)

-- What an event answers does not depend on the journal, nor on the noting
pub same-reply : (j : Journal) (a : Attempt) (e : Event) (bytes : List ℕ) →
    (journaled_step (with_journal a j) e bytes).reply ≡ (step_of a e bytes).reply
unfolding journaled_step
same-reply j a e bytes = ap (λ (s : After). s.reply) (ignores j a e bytes)

-- The step hands the journal on as it is
pub step-journal : (a : Attempt) (e : Event) (bytes : List ℕ) → (step_of a e bytes).attempt.journal ≡ a.journal
step-journal a e bytes = ap (λ (s : After). s.attempt.journal) (ignores a.journal a e bytes)

-- With one journal put into both, the run that notes and the run that does not are the same
pub same-run : (j : Journal) (a : Attempt) (es : List Handed) → with_journal (journaled_run a es) j ≡ run (with_journal a j) es
unfolding journaled_run run journaled_step
same-run j a [] = refl
same-run j a (e ∷ es) =
    same-run j (journaled_step a e.event e.bytes).attempt es ∙
    ap (λ (s : After). run s.attempt es) (sym (ignores j a e.event e.bytes))

pub same_end : (a : Attempt) (es : List Handed) → (journaled_run a es).end ≡ (run a es).end
same_end a es = ap (λ (b : Attempt). b.end) (same-run a.journal a es)
