-- The rules of the writer: those of the old sequence, which the reader judges, then those of the new one, in the order of
-- the code's tests.
use Prim.Native.Nat.{ℕ, ◌<◌, ◌≤◌}
use mathlib.Core.Bool.{Bool, true, false, cond, not, ◌||◌}
use mathlib.Core.List.{List, [], ◌∷◌}
use Rattle.std.specs.Prelude.{Option, Some}
use Rattle.std.specs.Option.{is_some}
use mathlib.Core.Path.{◌≡◌, refl, sym, ap, ◌∙◌}
use borrow.Author.Tests.{le-ltb, lt-ltb, ltb-false, not-true}
use lib.Dec.{eqb}
use lib.ListN.{length}
use Rattle.refusals.specs.Reply.{Reply.answered, refuse}
use Rattle.refusals.specs.Rule.{clear, judged}
use Rattle.refusals.specs.declared.Call.TheVariants.{Reading, Writing}
use Rattle.refusals.proofs.Rules.{answer-given, both_true, lowest-append, lowest-clear, lowest-number}
use Rattle.lists.specs.declared.Span.{Span}
use Rattle.parameters.specs.Limits.{max_parameters, max_sequence, version_information}
use Rattle.parameters.specs.Reading.{carried, fields_in, read_parameters, sequence_rules}
use Rattle.parameters.specs.Sequence.{Field, fields_of}
use Rattle.parameters.specs.Writing.{carrying, contents_in, contents_of, holds_ours, new_rules, parameters_to_write, sequence_bytes}
use Rattle.parameters.specs.Items.{items_left}
use Rattle.parameters.proofs.Items.{items_all}

-- ---- the old sequence

-- Version Information is among the parameters where the reader finds it
holds-carried : (s : List ℕ) (fs : List Field) → holds_ours (contents_in s fs) ≡ is_some (carried fs)
unfolding carried contents_in holds_ours
holds-carried s [] = refl
holds-carried s (f ∷ fs) = go (eqb f.id version_information) (holds-carried s fs)
  where
    go : (b : Bool) → holds_ours (contents_in s fs) ≡ is_some (carried fs)
        → (b || holds_ours (contents_in s fs)) ≡ is_some (cond b (Some f.value) (carried fs))
    go true rest = refl
    go false rest = rest

-- What the reader refuses, the writer refuses
pub old-refused : (old value : List ℕ) (room n : ℕ) → refuse Reading n ≡ read_parameters old → parameters_to_write old value room ≡ refuse Writing n
unfolding read_parameters parameters_to_write
old-refused old value room n e =
    lowest-append (refuse Writing) _ (sequence_rules old) (new_rules (carrying value (contents_of old)) room)
    ∙ sym (lowest-number Reading (carried (fields_in (fields_of old))) n (refuse Writing) _ (sequence_rules old) e)

-- Else the rules of the old sequence are clear, and ours goes last where the reader did not find it
pub old-read : (old : List ℕ) (found : Option Span) → answered found ≡ read_parameters old
    → (clear (sequence_rules old) ≡ true) × (not (is_some found) ≡ not (holds_ours (contents_of old)))
unfolding read_parameters
old-read old found e =
    let given = answer-given Reading (sequence_rules old) (carried (fields_in (fields_of old))) found (sym e) in
    (given.0, ap not (sym (holds-carried old (fields_in (fields_of old)) ∙ ap is_some given.1)))

-- It is not too long
pub old-short : (old : List ℕ) → clear (sequence_rules old) ≡ true → length old ≤ max_sequence
old-short old e = ltb-false _ _ (not-true _ (both_true _ _ e).0)

pub none-there : (found : Option Span) (b : Bool) → is_some found ≡ not b → b ≡ not (is_some found)
none-there found true e = ap not (sym e)
none-there found false e = ap not (sym e)

-- ---- the new one

module _ (old value : List ℕ) (read : clear (sequence_rules old) ≡ true) where
  -- No field of it runs past the end, so its parameters are all
  pub all-left : items_left old 0 ≡ fields_in (fields_of old)
  all-left = items_all old (not-true _ (both_true _ _ (both_true _ _ read).1).0)

  module _ (room : ℕ) where
    rules-left : parameters_to_write old value room
        ≡ judged Writing (new_rules (carrying value (contents_of old)) room) (answered (sequence_bytes (carrying value (contents_of old))))
    unfolding parameters_to_write
    rules-left =
        lowest-append (refuse Writing) (answered (sequence_bytes (carrying value (contents_of old)))) (sequence_rules old) (new_rules (carrying value (contents_of old)) room)
        ∙ lowest-clear (refuse Writing) _ (sequence_rules old) read

    pub too_long : max_sequence < length (sequence_bytes (carrying value (contents_of old))) → parameters_to_write old value room ≡ refuse Writing 80
    too_long long = rules-left ∙ rw (lt-ltb _ _ long)

    module _ (short : length (sequence_bytes (carrying value (contents_of old))) ≤ max_sequence) where
      pub no_room : room < length (sequence_bytes (carrying value (contents_of old))) → parameters_to_write old value room ≡ refuse Writing 84
      no_room past = rules-left ∙ rw (le-ltb _ _ short, lt-ltb _ _ past)

      module _ (fits : length (sequence_bytes (carrying value (contents_of old))) ≤ room) where
        pub too_many : max_parameters < length (carrying value (contents_of old)) → parameters_to_write old value room ≡ refuse Writing 85
        too_many many = rules-left ∙ rw (le-ltb _ _ short, le-ltb _ _ fits, lt-ltb _ _ many)

        pub written : length (carrying value (contents_of old)) ≤ max_parameters → parameters_to_write old value room ≡ answered (sequence_bytes (carrying value (contents_of old)))
        written few = rules-left ∙ rw (le-ltb _ _ short, le-ltb _ _ fits, le-ltb _ _ few)
