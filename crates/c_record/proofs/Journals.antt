-- The journal for those who hold a C record: after any calls it is that of the numbers that they were answered with, 255
-- left out. It holds of every start, and of every record whatever whose journal is that of some answers.
use Prim.Native.Nat.{ℕ}
use mathlib.Core.Bool.{Bool, true, false, cond}
use mathlib.Core.List.{List, [], ◌∷◌, ◌++◌, append-nil}
use Rattle.std.specs.Prelude.{Option, None, Some}
use mathlib.Core.Path.{◌≡◌, refl, sym, ap, ◌∙◌}
use lib.Dec.{eqb}
use lib.Seq.{append_snoc}
use Rattle.journal.specs.Journals.{journal_of}
use Rattle.attempt.specs.Journaled.{journaled_step}
use Rattle.attempt.specs.Start.{Input}
use Rattle.attempt.specs.Event.{Event}
use Rattle.attempt.proofs.Journaled.{one-noted, answer-known, start-journal}
use Rattle.c_record.specs.Calls.{EventCall, run_calls, numbers_to}
use Rattle.c_record.specs.Numbers.{not_valid}
use Rattle.c_record.specs.Records.{Left, is_record, attempt_of, record_of, event_of, event_on, as_found, step_record, start_record}
use Rattle.c_record.specs.declared.Record.{Record}

-- What one call does to a journal: it is left as found with 255, or the number is noted behind those before
pub data Noting (xs : List ℕ) (r : Record) (s : Left) : Type 0 where
  nothing : s.refusal ≡ not_valid → s.left.journal ≡ r.journal → Noting xs r s
  number : eqb s.refusal not_valid ≡ false → s.left.journal ≡ journal_of (xs ++ (s.refusal ∷ [])) → Noting xs r s

module _ (xs : List ℕ) (r : Record) (h : r.journal ≡ journal_of xs) where
  event-noting : (bytes : List ℕ) (o : Option Event) → Noting xs r (event_on r bytes o)
  unfolding record_of attempt_of journaled_step
  event-noting bytes None = nothing refl refl
  event-noting bytes (Some e) = number (answer-known (attempt_of r) e bytes) (one-noted xs (attempt_of r) e bytes h)

  call-noting : (kind value : ℕ) (bytes : List ℕ) → Noting xs r (step_record r kind value bytes)
  unfolding step_record
  call-noting kind value bytes = go (is_record r) where
    go : (b : Bool) → Noting xs r (cond b (event_on r bytes (event_of kind value)) (as_found r))
    go true = event-noting bytes (event_of kind value)
    go false = nothing refl refl

-- over a list of calls
calls-noted : (xs : List ℕ) (r : Record) (calls : List EventCall) → r.journal ≡ journal_of xs →
    (run_calls r calls).journal ≡ journal_of (xs ++ numbers_to r calls)
unfolding run_calls numbers_to
calls-noted xs r [] h = h ∙ ap journal_of (sym (append-nil xs))
calls-noted xs r (c ∷ calls) h =
    go (call-noting xs r h c.kind c.value c.bytes) (λ ys. calls-noted ys _ calls)
  where
    s : Left
    s = step_record r c.kind c.value c.bytes

    go : Noting xs r s → ((ys : List ℕ) → s.left.journal ≡ journal_of ys →
        (run_calls s.left calls).journal ≡ journal_of (ys ++ numbers_to s.left calls)) →
        (run_calls s.left calls).journal ≡
        journal_of
        (xs ++ cond (eqb s.refusal not_valid) (numbers_to s.left calls) (s.refusal ∷ numbers_to s.left calls))
    go (nothing outside stays) later = rw outside (later xs (stays ∙ h))
    go (number inside noted) later =
        rw inside
        (later (xs ++ (s.refusal ∷ [])) noted ∙ ap journal_of (append_snoc xs s.refusal (numbers_to s.left calls)))

pub journal-of-calls : (x : Input) (calls : List EventCall) →
    (run_calls (start_record x).left calls).journal ≡ journal_of (numbers_to (start_record x).left calls)
unfolding record_of
journal-of-calls x calls = calls-noted [] (start_record x).left calls (start-journal x)
