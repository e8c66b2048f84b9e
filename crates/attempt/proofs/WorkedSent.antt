-- The own list 3, 4 as sent, with reserved numbers at places (document 02, C-18), and the rule of those that are given, on
-- either side of its borders. Each is computed from the definitions alone.
use Prim.Native.Nat.{ℕ}
use mathlib.Core.Bool.{true, false}
use mathlib.Core.List.{List, [], ◌∷◌}
use mathlib.Core.Path.{◌≡◌, refl}
use Rattle.versions.specs.Version.{reserved}
use Rattle.attempt.specs.AsSent.{given_for, sent_from, list_as_sent, is_taken, each_given_keeps_rule, given_keep_rule}

abbrev own : List ℕ
own = 3 ∷ 4 ∷ []

-- Four reserved numbers
abbrev a : ℕ
a = 0x0A0A0A0A

abbrev b : ℕ
b = 0x1A2A3A4A

abbrev c : ℕ
c = 0xFAFAFAFA

abbrev d : ℕ
d = 0x5A6A7A8A

-- A number at a place
abbrev at : ℕ → ℕ → List ℕ
at number place = number ∷ place ∷ []

pub record SentLists : Type 0 where
  pub none : list_as_sent own [] ≡ 3 ∷ 4 ∷ []
  pub first : list_as_sent own (at a 0 ∷ []) ≡ a ∷ 3 ∷ 4 ∷ []
  pub between : list_as_sent own (at a 1 ∷ []) ≡ 3 ∷ a ∷ 4 ∷ []
  pub last : list_as_sent own (at a 2 ∷ []) ≡ 3 ∷ 4 ∷ a ∷ []
  -- in whatever order they are given
  pub two : list_as_sent own (at b 3 ∷ at a 1 ∷ []) ≡ 3 ∷ a ∷ 4 ∷ b ∷ []
  pub all_first : list_as_sent own (at a 0 ∷ at b 1 ∷ at c 2 ∷ at d 3 ∷ []) ≡ a ∷ b ∷ c ∷ d ∷ 3 ∷ 4 ∷ []
  pub all-last : list_as_sent own (at a 5 ∷ at b 4 ∷ at c 3 ∷ at d 2 ∷ []) ≡ 3 ∷ 4 ∷ d ∷ c ∷ b ∷ a ∷ []

pub sent-lists : SentLists
unfolding given_for sent_from list_as_sent
sent-lists =
    record { none = refl; first = refl; between = refl; last = refl; two = refl; all_first = refl; all-last = refl }

pub record GivenRules : Type 0 where
  -- a place at the end, and one past it
  pub end : given_keep_rule 3 (at a 2 ∷ []) ≡ true
  pub past_the_end : given_keep_rule 3 (at a 3 ∷ []) ≡ false
  -- four, and five
  pub four : given_keep_rule 6 (at a 0 ∷ at b 1 ∷ at c 2 ∷ at d 3 ∷ []) ≡ true
  pub five : given_keep_rule 7 (at a 0 ∷ at b 1 ∷ at c 2 ∷ at d 3 ∷ at 0x2A2A2A2A 4 ∷ []) ≡ false
  -- a number twice, a place twice, a number that is not reserved
  pub repeated : given_keep_rule 4 (at a 0 ∷ at a 1 ∷ []) ≡ false
  pub taken_twice : given_keep_rule 4 (at a 1 ∷ at b 1 ∷ []) ≡ false
  pub not-reserved : given_keep_rule 3 (at 0x0A0A0A0B 0 ∷ []) ≡ false

pub given-rules : GivenRules
unfolding is_taken each_given_keeps_rule given_keep_rule reserved
given-rules =
    record {
      end = refl;
      past_the_end = refl;
      four = refl;
      five = refl;
      repeated = refl;
      taken_twice = refl;
      not-reserved = refl;
    }
