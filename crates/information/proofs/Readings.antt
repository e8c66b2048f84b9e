-- What an answer of the reader tells of Version Information, from either sender.
use Prim.Native.Nat.{ℕ, ◌≤◌}
use mathlib.Core.Bool.{true, not}
use mathlib.Core.List.{List, ◌++◌}
use mathlib.Core.Path.{◌≡◌, ap, ◌∙◌}
use borrow.Author.Tests.{ltb-false, not-true}
use lib.Dec.{ltb}
use lib.ListN.{length}
use Rattle.refusals.specs.Reply.{Reply.answered, refuse}
use Rattle.refusals.specs.Rule.{Rule, lowest, clear}
use Rattle.refusals.specs.declared.Call.TheVariants.{Reading}
use Rattle.refusals.proofs.Rules.{both_true, lowest-clear, lowest-number, answered-clear, answered-injective}
use Rattle.lists.specs.Wire.{version_bytes}
use Rattle.lists.specs.declared.Span.{Span}
use Rattle.versions.proofs.Lists.{part-rest}
use Rattle.information.specs.Information.{Found, chosen_of, available_of, form_rules, sender_rules, found_in, versions_in, read_information}
use Rattle.information.specs.declared.Sender.{Sender}

abbrev found : ℕ → Span → Found
found c s = record { chosen = c; available = s }

module _ (sender : Sender) (bytes : List ℕ) where
  -- 31 to 36, as the sender's information is judged
  abbrev pub read_rules : List Rule
  read_rules = form_rules bytes ++ sender_rules sender (chosen_of bytes) (available_of bytes)

  -- what the reader refuses, a list of rules that begins with the reader's refuses
  pub read-refused : {B : Type 0} (refusal : ℕ → B) (other : B) (n : ℕ) →
      refuse Reading n ≡ read_information sender bytes → refusal n ≡ lowest refusal read_rules other
  unfolding read_information
  read-refused refusal other n e = lowest-number Reading (found_in bytes) n refusal other read_rules e

  -- what the reader found
  pub record Known (c : ℕ) (s : Span) : Type 0 where
    pub well-formed : clear read_rules ≡ true
    pub chosen_is : c ≡ chosen_of bytes
    pub start_is : s.start ≡ version_bytes
    pub end_is : s.end ≡ length bytes
    pub long-enough : version_bytes ≤ length bytes

  pub read_known : (c : ℕ) (s : Span) → answered (found c s) ≡ read_information sender bytes → Known c s
  unfolding read_information
  read_known c s e =
      let w : clear read_rules ≡ true = answered-clear Reading (found_in bytes) (found c s) read_rules e in
      let g : found c s ≡ found_in bytes =
      answered-injective (found c s) (found_in bytes)
      (e ∙ lowest-clear (refuse Reading) (answered (found_in bytes)) read_rules w) in
      let k : not (ltb (length bytes) version_bytes) ≡ true = (both_true _ _ w).0 in
      record {
        well-formed = w;
        chosen_is = ap (λ (r : Found). r.chosen) g;
        start_is = ap (λ (r : Found). r.available.start) g;
        end_is = ap (λ (r : Found). r.available.end) g;
        long-enough = ltb-false _ _ (not-true _ k);
      }

  -- the Available Versions lie where the reader says
  pub known-available : (c : ℕ) (s : Span) → Known c s → versions_in bytes s ≡ available_of bytes
  known-available c s r = rw (r.start_is, r.end_is, part-rest bytes version_bytes)

  -- none of the reader's rules applies
  pub known-clear : {B : Type 0} (refusal : ℕ → B) (other : B) (c : ℕ) (s : Span) → Known c s → lowest refusal read_rules other ≡ other
  known-clear refusal other c s r = lowest-clear refusal other read_rules r.well-formed
