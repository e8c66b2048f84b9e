-- What is answered is what keeps every rule: the reader's and the writer's rules as facts, both ways.
use Prim.Native.Nat.{ℕ, ◌%◌, ◌≤◌}
use mathlib.Core.Bool.{true, false, not, ◌&&◌}
use mathlib.Core.List.{List, [], ◌∷◌, ◌++◌}
use mathlib.Core.Path.{◌≡◌, refl}
use native.Mathlib.Omega.{arith}
use lib.Dec.{eqb}
use lib.ListN.{length}
use borrow.Author.Tests.{ltb-false, eqb-true, le-ltb, eq-eqb, not-false}
use Rattle.refusals.specs.Reply.{Reply.answered}
use Rattle.refusals.specs.Rule.{Rule, Rule.◌when◌, judged}
use Rattle.refusals.specs.declared.Call.{Call}
use Rattle.refusals.specs.declared.Call.TheVariants.{Reading, Writing}
use Rattle.versions.specs.Table.{elem}
use Rattle.lists.specs.Wire.{version_bytes}
use Rattle.information.specs.Information.{Found, is_client, chosen_of, available_of, form_rules, sender_rules, found_in}
use Rattle.information.specs.Information.{read_information, information_bytes, information_length, write_rules, information_to_write}
use Rattle.information.specs.Limits.{max_available, max_information}
use Rattle.information.specs.declared.Sender.{Sender}

-- No rule of a list applies, each as a fact
abbrev NoneApplies : List Rule → Type 0
NoneApplies [] = Unit
NoneApplies ((n when applies) ∷ rules) = (applies ≡ false) × NoneApplies rules

-- An answer comes where no rule applies, and is the answer that was to be given
answer-none : {A : Type 0} (call : Call) (rules : List Rule) (x y : A) → judged call rules (answered x) ≡ answered y
    → NoneApplies rules × (x ≡ y)
answer-none call [] x y e = (tt, cc)
answer-none call ((n when true) ∷ rules) x y e = absurd (let z : ◌≡◌ {A = ℕ} 0 1 = cc in omega arith)
answer-none call ((n when false) ∷ rules) x y e =
    let p = answer-none call rules x y e in
    ((refl, p.0), p.1)

-- 34 to 36, which the reader and the writer share
pub record Kept (sender : Sender) (chosen : ℕ) (available : List ℕ) : Type 0 where
  pub chosen-given : eqb chosen 0 ≡ false
  pub none-zero : elem 0 available ≡ false
  pub among : (is_client sender && not (elem chosen available)) ≡ false

-- 31 to 33 do not apply to the bytes, nor do 34 to 36
pub record ReadKept (sender : Sender) (bytes : List ℕ) : Type 0 where
  pub least : version_bytes ≤ length bytes
  pub fours : length bytes % version_bytes ≡ 0
  pub most : length bytes ≤ max_information
  pub others : Kept sender (chosen_of bytes) (available_of bytes)

-- Neither 33 nor 37 applies to what is to be written, nor do 34 to 36
pub record WriteKept (sender : Sender) (chosen : ℕ) (available : List ℕ) (room : ℕ) : Type 0 where
  pub few : length available ≤ max_available
  pub others : Kept sender chosen available
  pub fits : information_length available ≤ room

module _ (sender : Sender) (bytes : List ℕ) where
  pub read_kept : (found : Found) → read_information sender bytes ≡ answered found
      → ReadKept sender bytes × (found_in bytes ≡ found)
  unfolding read_information
  read_kept found e =
      let rules = form_rules bytes ++ sender_rules sender (chosen_of bytes) (available_of bytes) in
      let p = answer-none Reading rules (found_in bytes) found e in
      let none = p.0 in (
        record {
          least = ltb-false _ _ none.0;
          fours = eqb-true _ _ (not-false _ none.1.0);
          most = ltb-false _ _ none.1.1.0;
          others = record { chosen-given = none.1.1.1.0; none-zero = none.1.1.1.1.0; among = none.1.1.1.1.1.0 };
        },
        p.1,
      )

  pub read-answers : ReadKept sender bytes → read_information sender bytes ≡ answered (found_in bytes)
  unfolding read_information
  read-answers k =
      rw (
        le-ltb _ _ k.least,
        eq-eqb _ _ k.fours,
        le-ltb _ _ k.most,
        k.others.chosen-given,
        k.others.none-zero,
        k.others.among,
      )

module _ (sender : Sender) (chosen : ℕ) (available : List ℕ) (room : ℕ) where
  pub write_kept : (bytes : List ℕ) → information_to_write sender chosen available room ≡ answered bytes
      → WriteKept sender chosen available room × (information_bytes chosen available ≡ bytes)
  unfolding information_to_write
  write_kept bytes e =
      let p = answer-none Writing (write_rules sender chosen available room) (information_bytes chosen available) bytes e in
      let none = p.0 in (
        record {
          few = ltb-false _ _ none.0;
          others = record { chosen-given = none.1.0; none-zero = none.1.1.0; among = none.1.1.1.0 };
          fits = ltb-false _ _ none.1.1.1.1.0;
        },
        p.1,
      )

  pub write-answers : WriteKept sender chosen available room
      → information_to_write sender chosen available room ≡ answered (information_bytes chosen available)
  unfolding information_to_write
  write-answers k =
      rw (
        le-ltb _ _ k.few,
        k.others.chosen-given,
        k.others.none-zero,
        k.others.among,
        le-ltb _ _ k.fits,
      )
