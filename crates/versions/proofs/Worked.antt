-- The rules of tables, pairs and reserved numbers at their limits, computed: the most that there may be, and one more. Document 02, C-14:
-- "Tables go from 16 to 64 entries, pairs from 64 to 1,024".
use Prim.Native.Nat.{ℕ, zero, suc}
use mathlib.Core.Bool.{true, false}
use mathlib.Core.List.{List, [], ◌∷◌}
use mathlib.Core.Path.{◌≡◌, refl}
use lib.ListN.{replicate}
use Rattle.versions.specs.Pairs.{pair_keeps_rule, each_pair_keeps_rule, pairs_keep_rule}
use Rattle.versions.specs.Reserved.{each_reserved, reserved_keep_rule}
use Rattle.versions.specs.Table.{elem, entries_keep_rule, table_keeps_rule}
use Rattle.versions.specs.Version.{reserved, usable}

-- The versions from n down to 1
abbrev pub down-from : ℕ → List ℕ
down-from zero = []
down-from (suc n) = suc n ∷ down-from n

abbrev one-to-two : List ℕ
one-to-two = 1 ∷ 2 ∷ []

pub record Limits : Type 0 where
  pub no-entry : table_keeps_rule [] ≡ false
  pub one_entry : table_keeps_rule (down-from 1) ≡ true
  pub most-entries : table_keeps_rule (down-from 64) ≡ true
  pub one-entry-more : table_keeps_rule (down-from 65) ≡ false
  pub no-pair : pairs_keep_rule [] ≡ true
  -- "a repeated pair is harmless"
  pub most-pairs : pairs_keep_rule (replicate 1024 one-to-two) ≡ true
  pub one-pair-more : pairs_keep_rule (replicate 1025 one-to-two) ≡ false
  -- Document 02, C-18: "up to four distinct reserved numbers"
  pub no_number : reserved_keep_rule [] ≡ true
  pub most-numbers : reserved_keep_rule (0x0A0A0A0A ∷ 0x1A2A3A4A ∷ 0x5A6A7A8A ∷ 0xFAFAFAFA ∷ []) ≡ true
  pub one-number-more : reserved_keep_rule (0x0A0A0A0A ∷ 0x1A2A3A4A ∷ 0x5A6A7A8A ∷ 0xFAFAFAFA ∷ 0x2A2A2A2A ∷ []) ≡ false
  pub number-twice : reserved_keep_rule (0x0A0A0A0A ∷ 0x1A2A3A4A ∷ 0x0A0A0A0A ∷ []) ≡ false
  pub not-reserved-number : reserved_keep_rule (0x0A0A0A0A ∷ 0x0A0A0A0B ∷ []) ≡ false

pub limits : Limits
unfolding pair_keeps_rule each_pair_keeps_rule pairs_keep_rule each_reserved reserved_keep_rule elem entries_keep_rule table_keeps_rule reserved
    usable
limits =
    record {
      no-entry = refl;
      one_entry = refl;
      most-entries = refl;
      one-entry-more = refl;
      no-pair = refl;
      most-pairs = refl;
      one-pair-more = refl;
      no_number = refl;
      most-numbers = refl;
      one-number-more = refl;
      number-twice = refl;
      not-reserved-number = refl;
    }
