-- The laws of the search by slots.
use Prim.Native.Nat.{ℕ, zero, suc, ◌+◌, ◌^◌, ◌<◌, ◌≤◌}
use mathlib.Core.Bool.{Bool, true, false, cond, not}
use mathlib.Core.List.{List}
use mathlib.Core.Path.{◌≡◌, refl, sym, ap, ◌∙◌}
use native.Mathlib.Omega.{arith}
use Rattle.std.proofs.Common.{tests}
use lib.Dec.{eqb}
use lib.ListN.{length, take, drop, get_or, set, replicate, get_or-replicate, length-take, length-drop}
use lib.Seq.{get_or-set_other, length-take-le}
use Rattle.std.specs.Prelude.{Some, None, option_map, unwrap_or}
use Rattle.std.specs.List.{position, position_or_len}
use Rattle.std.proofs.lemmas.List.{take-append-drop}
use Rattle.std.proofs.lemmas.List.Folds.{prefix_len-append}
use Rattle.std.proofs.lemmas.List.Sums.{position_or_len_is, prefix_len-le-length}
use Rattle.std.proofs.lemmas.List.Recursion.{is_position_or_len}
use Rattle.lists.specs.Wire.{turned}
use Rattle.lists.proofs.Turning.{turned-equal}
use Rattle.versions.specs.Table.{elem}
use Rattle.versions.proofs.Lists.{drop-next, elem-here, elem_next}
use Rattle.slots.specs.First.{first_place, place_found}
use Rattle.slots.specs.declared.rounds.Mark.TheVariants.{Absent, Waiting}
use Rattle.slots.specs.Slots.{slot_of, IsFactor, filler_of, Emptied, Stands, Passed, FromHit, Scanned, AbsentNotHeld}
use Rattle.std.proofs.lemmas.Grind.{common_steps}
use Rattle.std.proofs.lemmas.Bool.Decides.{nat_tests}

-- What an emptied slot holds has another slot
filler-elsewhere : (factor slot : ℕ) → IsFactor factor → slot_of (filler_of slot) factor ≡ slot → ⊥
unfolding slot_of
filler-elsewhere factor zero f e = omega (arith, f.0, f.1)
filler-elsewhere factor (suc slot) f e = grind (arith, tests)

-- An entry that does not stand is passed over, by what `stands` tells of its word
pub pass_over : (slots list : List ℕ) (factor i j : ℕ) {word : ℕ} {b : Bool} → j ≡ i + 1 → i < length list
    → b ≡ eqb (get_or slots (slot_of word factor) 0) word → word ≡ turned (get_or list i 0) → b ≡ false
    → Passed slots list (drop i list) factor → Passed slots list (drop j list) factor
pass_over slots list factor i j next h told its f passed v s =
    grind (arith, passed v s, elem_next v list i h)

-- Up to the next entry that stands
pub scan_on : (before slots list rest hit : List ℕ) (factor : ℕ) → Scanned before slots list rest factor
    → FromHit slots rest hit factor → Scanned before slots list hit factor
scan_on before slots list rest hit factor scanned next v l s = grind (arith, scanned v l s, next.passed v)

-- Past an entry that stood, whose slot was emptied: two versions that stood in one slot are one
pub scan_hit : (before slots after list hit : List ℕ) (factor : ℕ) (f : IsFactor factor)
    (scanned : Scanned before slots list hit factor) (inside : 0 < length hit)
    (small : get_or hit 0 0 < 2 ^ 32) (stood : Stands slots factor (get_or hit 0 0))
    (emptied : Emptied slots after (slot_of (turned (get_or hit 0 0)) factor)) → Scanned before after list (drop 1 hit) factor
scan_hit before slots after list hit factor f scanned inside small stood emptied v l s =
    let slot = slot_of (turned v) factor in
    grind (
      arith,
      scanned v l s,
      emptied.gone,
      emptied.others slot,
      filler-elsewhere factor slot f,
      turned-equal (get_or hit 0 0) v small l,
      elem_next v hit 0 inside,
      elem-here v hit 0 inside,
    )

-- Of the first entry alone it is known at the start
pub absent_start : (table list : List ℕ) (n : ℕ) → length table ≤ n → elem (get_or table 0 0) list ≡ false
    → AbsentNotHeld table list (set (replicate n Waiting) 0 Absent)
absent_start table list n h first k l z =
    let other = get_or-set_other (replicate n Waiting) 0 k Absent Absent in
    grind (arith, common_steps, get_or-replicate n k Waiting Absent, other)

-- The first place is that of the library's search
first_passes : (table list : List ℕ) → first_place table list ≡ position_or_len (λ v. elem v list) table
unfolding first_place
first_passes table list =
    is_position_or_len (λ t. first_place t list) (λ v. elem v list) refl (λ v t. ap (cond (elem v list) 0) (omega arith)) table

-- The first place that is held, with every one before it absent
pub first_is : (table list : List ℕ) (r : ℕ) → r ≤ length table
    → ((k : ℕ) → k < r → elem (get_or table k 0) list ≡ false)
    → (r < length table → elem (get_or table r 0) list ≡ true)
    → r ≡ first_place table list
first_is table list r h none held =
    sym (first_passes table list ∙ position_or_len_is (λ v. elem v list) table r 0 h none held)

first_at_most : (table list : List ℕ) → first_place table list ≤ length table
first_at_most table list = rw (first_passes table list) (prefix_len-le-length (λ v. not (elem v list)) table)

-- A table in two parts: the place in the front, or else that in the rest
first_in_parts : (n : ℕ) (table list : List ℕ) → (let front = take n table in
    first_place table list ≡ cond (eqb (first_place front list) (length front)) (length front + first_place (drop n table) list) (first_place front list))
first_in_parts n table list =
    let front = take n table in
    rw (first_passes front list, first_passes (drop n table) list)
    (first_passes table list ∙ ap (position_or_len (λ v. elem v list)) (sym (take-append-drop n table)) ∙ prefix_len-append (λ v. not (elem v list)) front (drop n table))

-- A table up to an entry that is held
pub first_before : (k : ℕ) (table list : List ℕ) → k < length table → elem (get_or table k 0) list ≡ true
    → first_place (take k table) list ≡ first_place table list
unfolding first_place
first_before k table list h held =
    grind (arith, nat_tests, first_in_parts k table list, drop-next table k 0 h, length-take-le k table)

-- The place that `position` finds
pub found_by_position : (table list : List ℕ) → position (λ v. elem v list) table ≡ place_found table list
unfolding place_found
found_by_position table list = rw (first_passes table list)

-- It tells the first place: that place, or the table's length
pub found_or_length : (table list : List ℕ) → unwrap_or (place_found table list) (length table) ≡ first_place table list
unfolding place_found
found_or_length table list = grind (arith, nat_tests, first_at_most table list)

-- A place that is found is one of the table
pub found_inside : (place : ℕ) (table list : List ℕ) → place_found table list ≡ Some place → place < length table
unfolding place_found
found_inside place table list found = grind (arith, nat_tests)

-- A table in two parts: a place in the front is the place in the whole
pub found_in_front : (n : ℕ) (table list : List ℕ) → (place_found (take n table) list ≡ None → ⊥)
    → place_found (take n table) list ≡ place_found table list
unfolding place_found
found_in_front n table list found = grind (arith, nat_tests, length-take n table, first_in_parts n table list)

-- and where the front has none, the rest has it
pub found_behind : (n : ℕ) (table list : List ℕ) → n ≤ length table → place_found (take n table) list ≡ None
    → option_map (λ place. n + place) (place_found (drop n table) list) ≡ place_found table list
unfolding place_found
found_behind n table list h none =
    grind (arith, nat_tests, length-take-le n table h, length-drop n table, first_in_parts n table list, first_at_most (take n table) list)
