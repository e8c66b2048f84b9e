-- `choose` along the code of a choice: its refusals in order, then what is preferred.
use Prim.Native.Nat.{ℕ, zero, suc, ◌+◌, ◌<◌, ◌≤◌}
use mathlib.Core.Bool.{Bool, true, false, cond}
use mathlib.Core.List.{List, [], ◌∷◌}
use Rattle.std.specs.Prelude.{Option, None, Some, ok_or, is_some, IfSome, option_copied, option_map}
use Rattle.std.proofs.Common.{Bor}
use Rattle.std.proofs.lemmas.Bool.Decides.{nat_tests}
use borrow.Author.Tests.{ltb-true, ltb-false}
use lib.Dec.{ltb}
use Rattle.lists.proofs.Entries.{entry_at-past, entry_at-there}
use native.Mathlib.Omega.{arith}
use mathlib.Core.Path.{◌≡◌, refl, sym, ap, ◌∙◌}
use lib.ListN.{length, drop, get_or, drop_of_length-le}
use Rattle.refusals.specs.Reply.{refuse, read_reply}
use Rattle.refusals.proofs.Injective.{numbered}
use Rattle.refusals.specs.declared.Call.TheVariants.{Reading}
use Rattle.choosing.specs.Choice.{choose, or_nothing_in_common, preferred}
use Rattle.lists.specs.Limits.{max_list}
use Rattle.lists.specs.Wire.{entry_at}
use Rattle.slots.specs.First.{first_place, place_found}
use Rattle.versions.specs.Table.{elem, table_keeps_rule}
use Rattle.versions.proofs.Lists.{drop-next}
use Rattle.choosing.proofs.Judged.{judged-too-long, judged-bad-table}

module _ (table list : List ℕ) where
  pub list-too-long : max_list < length list → choose table list ≡ refuse Reading 40
  unfolding choose
  list-too-long l = judged-too-long table list (or_nothing_in_common (preferred table list)) l

  pub bad-table : length list ≤ max_list → table_keeps_rule table ≡ false → choose table list ≡ refuse Reading 41
  unfolding choose
  bad-table l t = judged-bad-table table list (or_nothing_in_common (preferred table list)) l t

-- What was found, as a result with 42 where it is none
pub found_or_nothing : (found : Option ℕ) → read_reply (ok_or found (numbered 42)) ≡ or_nothing_in_common found
found_or_nothing None = refl
found_or_nothing (Some v) = refl

-- `preferred`, from a list
module _ (list table : List ℕ) (i : ℕ) where
  pub preferred-here : i < length table → elem (get_or table i 0) list ≡ true → preferred (drop i table) list ≡ Some (get_or table i 0)
  unfolding preferred
  preferred-here h e = rw (drop-next table i 0 h, e)

  pub preferred-next : i < length table → elem (get_or table i 0) list ≡ false → preferred (drop i table) list ≡ preferred (drop (i + 1) table) list
  unfolding preferred
  preferred-next h e = rw (drop-next table i 0 h, e)

  pub preferred-end : length table ≤ i → preferred (drop i table) list ≡ None
  unfolding preferred
  preferred-end h = rw (drop_of_length-le table h)

-- The entry at a place inside, whatever stands for what is outside
entry-inside : (vs : List ℕ) (place d : ℕ) → place < length vs → Some (get_or vs place d) ≡ entry_at vs place
unfolding entry_at
entry-inside [] place d h = absurd (omega arith)
entry-inside (v ∷ vs) zero d h = refl
entry-inside (v ∷ vs) (suc place) d h = entry-inside vs place d (omega arith)

-- `get` at a place of a table, the entry copied
pub copied-at : (table : List ℕ) (found : Option (Bor ℕ)) (place : ℕ)
    → is_some found ≡ ltb place (length table) → IfSome found (λ x. x.now ≡ get_or table place x.now)
    → option_copied found ≡ entry_at table place
copied-at table None place there at = sym (entry_at-past table place (ltb-false _ _ (sym there)))
copied-at table (Some x) place there at =
    ap Some at ∙ entry-inside table place x.now (ltb-true _ _ (sym there))

-- What is preferred is the table's entry at the first place that the list holds
pub preferred-place : (table list : List ℕ) → preferred table list ≡ entry_at table (first_place table list)
unfolding preferred entry_at first_place
preferred-place [] list = refl
preferred-place (v ∷ table) list = go (elem v list) (preferred-place table list)
  where
    go : (b : Bool) → preferred table list ≡ entry_at table (first_place table list)
        → cond b (Some v) (preferred table list) ≡ entry_at (v ∷ table) (cond b 0 (suc (first_place table list)))
    go true rest = refl
    go false rest = rest

-- The same of the place as an Option
pub preferred_found : (table list : List ℕ) → preferred table list ≡ option_map (λ place. get_or table place 0) (place_found table list)
unfolding place_found
preferred_found table list = grind (arith, nat_tests, preferred-place table list, entry_at-there table (first_place table list), entry_at-past table (first_place table list))
