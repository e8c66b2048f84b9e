-- What is answered is what keeps every rule: the reader's and the writer's rules as facts, both ways.
use Prim.Native.Nat.{ℕ, ◌≤◌}
use mathlib.Core.Bool.{true, false, ◌&&◌, true≢false}
use mathlib.Core.List.{List, ◌++◌}
use Rattle.std.specs.Prelude.{Option}
use mathlib.Core.Path.{◌≡◌, refl, sym, ap, ◌∙◌, subst}
use borrow.Author.Tests.{ltb-false, le-ltb, not-true}
use lib.ListN.{length}
use Rattle.refusals.specs.Reply.{Reply, Reply.refused, Reply.answered, refuse}
use Rattle.refusals.specs.Rule.{clear}
use Rattle.refusals.specs.declared.Call.TheVariants.{Reading, Writing}
use Rattle.refusals.proofs.Rules.{answer-given, both_true, clear-append, lowest-clear}
use Rattle.lists.specs.declared.Span.{Span}
use Rattle.parameters.specs.Limits.{max_sequence, max_parameters}
use Rattle.parameters.specs.Sequence.{Field, fields_of, ids_of, repeats}
use Rattle.parameters.specs.Reading.{runs_past, fields_in, sequence_rules, carried, read_parameters}
use Rattle.parameters.specs.Writing.{Content, contents_in, contents_of, sequence_bytes, carrying, new_rules, parameters_to_write}

-- None of 80, 81, 82 and 85 applies to a sequence
pub record Kept (s : List ℕ) : Type 0 where
  pub fields : List Field
  pub read : fields_of s ≡ answered fields
  pub short : length s ≤ max_sequence
  pub once : repeats (ids_of fields) ≡ false
  pub few : length fields ≤ max_parameters

-- None of 80, 84 and 85 applies to parameters that are to be written
pub record Fits (ps : List Content) (room : ℕ) : Type 0 where
  pub short : length (sequence_bytes ps) ≤ max_sequence
  pub fits : length (sequence_bytes ps) ≤ room
  pub few : length ps ≤ max_parameters

-- Where no rule of the reader applies, each as a fact
clear_kept : (s : List ℕ) → clear (sequence_rules s) ≡ true → Kept s
clear_kept s e =
    let a = both_true _ _ e in
    let b = both_true _ _ a.1 in
    let c = both_true _ _ b.1 in
    let d = both_true _ _ c.1 in
    let found = answer (fields_of s) (not-true _ b.0) in
    record {
      fields = found.0;
      read = found.1;
      short = ltb-false _ _ (not-true _ a.0);
      once = sym (ap (λ (r : Reply (List Field)). repeats (ids_of (fields_in r))) found.1) ∙ not-true _ c.0;
      few = subst (λ (r : Reply (List Field)). length (fields_in r) ≤ max_parameters) found.1 (ltb-false _ _ (not-true _ d.0));
    }
  where
    answer : (r : Reply (List Field)) → runs_past r ≡ false → (fs : List Field) × (r ≡ answered fs)
    answer (refused n c) h = absurd (true≢false h)
    answer (answered fs) h = (fs, refl)

-- and back
kept-clear : {s : List ℕ} → Kept s → clear (sequence_rules s) ≡ true
kept-clear k = rw (le-ltb _ _ k.short, k.read, k.once, le-ltb _ _ k.few) refl

-- Where no rule for the new sequence applies, each as a fact
clear-fits : (ps : List Content) (room : ℕ) → clear (new_rules ps room) ≡ true → Fits ps room
clear-fits ps room e =
    let a = both_true _ _ e in
    let b = both_true _ _ a.1 in
    let c = both_true _ _ b.1 in
    record {
      short = ltb-false _ _ (not-true _ a.0);
      fits = ltb-false _ _ (not-true _ b.0);
      few = ltb-false _ _ (not-true _ c.0);
    }

-- and back
fits-clear : {ps : List Content} {room : ℕ} → Fits ps room → clear (new_rules ps room) ≡ true
fits-clear f = rw (le-ltb _ _ f.short, le-ltb _ _ f.fits, le-ltb _ _ f.few) refl

-- What a sequence says that keeps the rules
pub kept-contents : {s : List ℕ} (k : Kept s) → contents_of s ≡ contents_in s k.fields
kept-contents {s} k = ap (λ (r : Reply (List Field)). contents_in s (fields_in r)) k.read

module _ (s : List ℕ) where
  -- A sequence that is read keeps the rules, and the answer is where our value lies in it
  pub read_kept : (found : Option Span) → read_parameters s ≡ answered found → (k : Kept s) × (carried k.fields ≡ found)
  unfolding read_parameters
  read_kept found e =
      let p = answer-given Reading (sequence_rules s) (carried (fields_in (fields_of s))) found e in
      let k = clear_kept s p.0 in
      (k, rw k.read at p.1)

  -- and one that keeps them is read
  pub read-answers : (k : Kept s) → read_parameters s ≡ answered (carried k.fields)
  unfolding read_parameters
  read-answers k =
      lowest-clear (refuse Reading) _ (sequence_rules s) (kept-clear k)
      ∙ ap (λ (r : Reply (List Field)). answered (carried (fields_in r))) k.read

module _ (old value : List ℕ) (room : ℕ) where
  -- Where a sequence is to be written, the old one keeps the rules and the new one fits
  pub write_kept : (new : List ℕ) → parameters_to_write old value room ≡ answered new
      → Kept old × Fits (carrying value (contents_of old)) room × (sequence_bytes (carrying value (contents_of old)) ≡ new)
  unfolding parameters_to_write
  write_kept new e =
      let ps = carrying value (contents_of old) in
      let p = answer-given Writing (sequence_rules old ++ new_rules ps room) (sequence_bytes ps) new e in
      let both = both_true _ _ (sym (clear-append (sequence_rules old) (new_rules ps room)) ∙ p.0) in
      (clear_kept old both.0, clear-fits ps room both.1, p.1)

  -- and where they do, it is written
  pub write-answers : Kept old → Fits (carrying value (contents_of old)) room
      → parameters_to_write old value room ≡ answered (sequence_bytes (carrying value (contents_of old)))
  unfolding parameters_to_write
  write-answers k f =
      let ps = carrying value (contents_of old) in
      let both : (clear (sequence_rules old) && clear (new_rules ps room)) ≡ true = rw (kept-clear k) (fits-clear f) in
      lowest-clear (refuse Writing) _ (sequence_rules old ++ new_rules ps room)
      (clear-append (sequence_rules old) (new_rules ps room) ∙ both)
