-- Records that an attempt has: what the test of one tells, the attempt and the record back from each other, and that
-- starts and events leave such records.
use mir.Val.{bool_byte}
use Prim.Native.Nat.{ℕ, ◌≤◌}
use mathlib.Core.Bool.{Bool, true, false, cond, ◌&&◌}
use mathlib.Core.List.{List}
use Rattle.std.specs.Prelude.{None, Some}
use mathlib.Core.Path.{◌≡◌, refl, sym, ap, ◌∙◌}
use native.Mathlib.Omega.{arith}
use lib.Dec.{eqb, leb}
use borrow.Author.Tests.{leb-true, ne_eqb, eqb-true, eqb-false}
use Rattle.refusals.proofs.Rules.{both_true, lowest-applies}
use Rattle.versions.specs.Table.{elem}
use Rattle.attempt.specs.Journaled.{journaled_step, journaled_step_of_any}
use Rattle.attempt.specs.Limits.{not_a_record}
use Rattle.attempt.specs.Start.{Input, Start, is_accepted, start_rules, start_of, refused_start, opened_start, opened, blank}
use Rattle.attempt.specs.Step.{unchanged, counts_fit, could_be_attempt}
use Rattle.attempt.specs.declared.Attempt.{Attempt}
use Rattle.attempt.specs.declared.End.{End}
use Rattle.attempt.specs.declared.End.TheVariants.{Open, Completed, Closed}
use Rattle.attempt.specs.Event.{Event}
use Rattle.attempt.proofs.Demand3.{start-accepted}
use Rattle.attempt.proofs.Keeps.{Keeps, step_keeps, passing_kept, start-passes}
use Rattle.c_record.specs.Numbers.{flag}
use Rattle.c_record.specs.Records.{marks_fit, mark_fits, end_of, mark_of, mark_value, is_record, attempt_of, record_of, zeroed}
use Rattle.c_record.specs.Records.{event_of, event_on, left_after, as_found, step_record}
use Rattle.c_record.specs.declared.Record.{Record}
use Rattle.attempt.specs.Attempt.{closed_with}

-- The number of a closed end is a byte
pub closed-value : (mark value : ℕ) → (mark ≡ 0 → ⊥) → (mark ≡ 1 → ⊥) → mark_fits mark value ≡ true → value ≤ 255
closed-value mark value n m h =
    let e = rw (ne_eqb mark 0 n, ne_eqb mark 1 m) at h in
    leb-true _ _ (both_true (eqb mark 2) (leb value 255) e).1

-- What the test of flags and mark tells
pub record MarksFit (r : Record) : Type 0 where
  pub acted : leb r.acted 1 ≡ true
  pub heard : leb r.heard 1 ≡ true
  pub mark : mark_fits r.end_mark r.end_value ≡ true

pub marks-told : (r : Record) → marks_fit r ≡ true → MarksFit r
marks-told r h =
    let a = both_true (leb r.acted 1) _ h in
    let b = both_true (leb r.heard 1) _ a.1 in
    record { acted = a.0; heard = b.0; mark = b.1 }

-- A record that events take: both parts of its test
pub record-parts : (r : Record) → is_record r ≡ true → (marks_fit r ≡ true) × (could_be_attempt (attempt_of r) ≡ true)
unfolding is_record
record-parts r h = both_true (marks_fit r) _ h

-- An attempt comes back from its record

flag-back : (b : Bool) → eqb (flag b) 1 ≡ b
flag-back false = refl
flag-back true = refl

end_back : (e : End) → end_of (mark_of e) (mark_value e) ≡ e
end_back Open = refl
end_back (Completed v) = refl
end_back (Closed n) = refl

pub attempt-back : (a : Attempt) → attempt_of (record_of a) ≡ a
unfolding attempt_of record_of
attempt-back a = rw (flag-back a.acted, flag-back a.heard, end_back a.end)

-- A record comes back from its attempt

flag-whole : (n : ℕ) → leb n 1 ≡ true → flag (eqb n 1) ≡ n
flag-whole n h = go (eqb n 1) refl where
  go : (b : Bool) → eqb n 1 ≡ b → flag b ≡ n
  go true e = sym (eqb-true n 1 e)
  go false e = let l = leb-true n 1 h in let d = eqb-false n 1 e in omega (arith, l, d)

-- the end of a mark and a value that fit: the mark and the value come back, and fit again
pub record EndWhole (mark value : ℕ) (e : End) : Type 0 where
  pub mark-is : mark_of e ≡ mark
  pub value-is : mark_value e ≡ value
  pub fits : mark_fits (mark_of e) (mark_value e) ≡ true

end_whole : (m x : ℕ) → mark_fits m x ≡ true → EndWhole m x (end_of m x)
end_whole m x h = go (eqb m 0) (eqb m 1) refl refl h where
  go : (b d : Bool) → eqb m 0 ≡ b → eqb m 1 ≡ d → cond b (eqb x 0) (cond d true (eqb m 2 && leb x 255)) ≡ true →
      EndWhole m x (cond b Open (cond d (Completed x) (closed_with x)))
  go true d e f k = record { mark-is = sym (eqb-true m 0 e); value-is = sym (eqb-true x 0 k); fits = refl }
  go false true e f k = record { mark-is = sym (eqb-true m 1 f); value-is = refl; fits = refl }
  go false false e f k =
      let two = both_true (eqb m 2) (leb x 255) k in
      record { mark-is = sym (eqb-true m 2 two.0); value-is = refl; fits = two.1 }

pub record-back : (r : Record) → marks_fit r ≡ true → record_of (attempt_of r) ≡ r
unfolding record_of attempt_of
record-back r h =
    let f = marks-told r h in
    let e = end_whole r.end_mark r.end_value f.mark in
    rw (
      flag-whole r.acted f.acted,
      flag-whole r.heard f.heard,
      e.mark-is,
      e.value-is,
    )

-- The record of what could be an attempt, with such an end, is one that events take

abbrev pub RecordFits : Attempt → Type 0
RecordFits a = (could_be_attempt a ≡ true) × (mark_fits (mark_of a.end) (mark_value a.end) ≡ true)

-- A test as a byte is its flag
pub flag_byte : (b : Bool) → bool_byte b ≡ flag b
flag_byte false = refl
flag_byte true = refl

flag_small : (b : Bool) → leb (flag b) 1 ≡ true
flag_small false = refl
flag_small true = refl

pub is-record : (a : Attempt) → RecordFits a → is_record (record_of a) ≡ true
unfolding is_record record_of
is-record a f = rw (attempt-back a) (both (marks a f.1) f.0)
  where
    both : {p q : Bool} → p ≡ true → q ≡ true → (p && q) ≡ true
    both p q = rw (p, q)

    marks : (a : Attempt) → mark_fits (mark_of a.end) (mark_value a.end) ≡ true → marks_fit (record_of a) ≡ true
    marks a m = rw (flag_small a.acted, flag_small a.heard, m)

-- the attempt of a record that events take
pub record-fits : (r : Record) → is_record r ≡ true → RecordFits (attempt_of r)
unfolding attempt_of
record-fits r h =
    let parts = record-parts r h in
    (parts.1, (end_whole r.end_mark r.end_value (marks-told r parts.0).mark).fits)

-- every event leaves such an attempt
fits_kept : (a : Attempt) → RecordFits a → Keeps RecordFits a
fits_kept a f =
    record {
      stays = λ n. f;
      acts = λ v held. ((passing_kept a f.0).acts v held, f.1);
      notes = f;
      closes = λ n byte. (f.0, byte);
      completes = λ v. (f.0, refl);
    }

pub step_fits : (a : Attempt) (e : Event) (bytes : List ℕ) → RecordFits a → RecordFits (journaled_step a e bytes).attempt
unfolding journaled_step
step_fits a e bytes f = step_keeps RecordFits a (fits_kept a f) e bytes

-- and so does every start that is accepted
pub start_fits : (x : Input) → is_accepted x ≡ true → RecordFits (start_of x).attempt
unfolding opened
start_fits x h = (start-passes x h, rw (start-accepted x h))

-- The counts of every start's record, accepted or refused
pub start-counts : (x : Input) → counts_fit (start_of x).attempt ≡ true
unfolding start_of blank
start-counts x = go (is_accepted x) refl where
  go : (b : Bool) → is_accepted x ≡ b → counts_fit (start_of x).attempt ≡ true
  go true h = (both_true (counts_fit (start_of x).attempt) _ (start-passes x h)).0
  go false h =
      lowest-applies refused_start (opened_start x) (λ (s : Start). counts_fit s.attempt ≡ true) (λ n. refl) (start_rules x) h

-- Zeroed memory and the record of a refused start are no attempt's

pub zeroed-refused : is_record zeroed ≡ false
unfolding is_record attempt_of elem
zeroed-refused = refl

pub blank-record-refused : is_record (record_of blank) ≡ false
unfolding is_record attempt_of record_of blank elem
blank-record-refused = refl

-- One event, by its kind
module _ (r : Record) (kind value : ℕ) (bytes : List ℕ) where
  pub step-refused : is_record r ≡ false → as_found r ≡ step_record r kind value bytes
  unfolding step_record
  step-refused h = rw h

  pub step-known : is_record r ≡ true → {e : Event} → event_of kind value ≡ Some e →
      left_after (journaled_step (attempt_of r) e bytes) ≡ step_record r kind value bytes
  unfolding step_record
  step-known h k = rw (h, k)

  pub step-unknown : event_of kind value ≡ None → as_found r ≡ step_record r kind value bytes
  unfolding step_record
  step-unknown k = go (is_record r) where
    go : (b : Bool) → as_found r ≡ cond b (event_on r bytes (event_of kind value)) (as_found r)
    go true = rw k
    go false = refl

  module _ (marks : marks_fit r ≡ true) where
    pub marks-record : {b : Bool} → could_be_attempt (attempt_of r) ≡ b → is_record r ≡ b
    unfolding is_record
    marks-record h = rw marks h

    -- the step for any record value, over the record
    pub step-any-known : {e : Event} → event_of kind value ≡ Some e →
        left_after (journaled_step_of_any (attempt_of r) e bytes) ≡ step_record r kind value bytes
    unfolding journaled_step_of_any
    step-any-known {e} k = go (could_be_attempt (attempt_of r)) refl where
      go : (b : Bool) → could_be_attempt (attempt_of r) ≡ b →
          left_after (cond b (journaled_step (attempt_of r) e bytes) (unchanged (attempt_of r) not_a_record)) ≡ step_record r kind value bytes
      go true h = step-known (marks-record h) k
      go false h =
          ap (λ (x : Record). record { left = x; refusal = not_a_record }) (record-back r marks) ∙
          step-refused (marks-record h)
