-- `put_members`: at each turn, the entries so far stand over what was found, and the rest of the word adds what is
-- missing.
use Prim.Native.Nat.{ℕ, ◌<◌, ◌≤◌}
use mathlib.Core.List.{List}
use mathlib.Core.Path.{◌≡◌}
use native.Mathlib.Nat.{le_trans, lt_of_lt_of_le}
use native.Mathlib.Omega.{arith}
use lib.Count.{count_trailing_zeros, trailing_of_zero}
use lib.ListN.{length, take, length-take}
use lib.Seq.{get_or-take}
use Rattle.versions.specs.Limits.{max_table}
use Rattle.versions.specs.Words.{word_bits}
use Rattle.versions.proofs.Marked.{table-in-word}
use Rattle.attempt.proofs.Walks.{collected-none, room, collected-one, collected-all}
use Rattle.attempt.proofs.own.put_members.Goals.{Else-count-lowest}
use Rattle.attempt.proofs.own.put_members.Goals as goal

pub loop-rest-init : goal.loop-rest-init
loop-rest-init c = let g = c.args in
    let cut = c.min-count.ensures in
    let named = c.room_of.ensures.named in
    let all = length-take max_table g.table.now in
    (omega arith, collected-none g.word (take max_table g.table.now) g.places.now)

-- The entries that are read: no more than the places that there are
few : (table : List ℕ) → length (take max_table table) ≤ max_table
few table = let all = length-take max_table table in omega (arith, all)

pub returns-then-count-lowest : goal.returns-then-count-lowest
returns-then-count-lowest c =
    let g = c.args in
    let l = c.loop-rest in
    let all = collected-all g.word (take max_table g.table.now) g.places.now l.places l.found l.rest word_bits l.invariant.1 (omega (arith, c.if-count-lowest.true, l.invariant.0)) in
    record { counted = all.0; left = all.1 }

-- The lowest set bit is that of an entry
lowest-within : (c : Else-count-lowest) →
    count_trailing_zeros word_bits c.loop-rest.rest < length (take max_table c.args.table.now)
lowest-within c = omega (arith, c.if-count-lowest.false, c.loop-rest.invariant.0)

bit-within : (c : Else-count-lowest) → count_trailing_zeros word_bits c.loop-rest.rest < word_bits
bit-within c = lt_of_lt_of_le (lowest-within c) (le_trans (few c.args.table.now) table-in-word)

-- there are as many places as entries at least
fits : (c : Else-count-lowest) → length (take max_table c.args.table.now) ≤ length c.args.places.now
fits c =
    let room_of = c.room_of.ensures in
    omega (arith, few c.args.table.now, room_of.named, room_of.counted)

-- and there is a place for that entry
found_within : (c : Else-count-lowest) → c.loop-rest.found < max_table
found_within c =
    let g = c.args in
    let l = c.loop-rest in
    let room_of = c.room_of.ensures in
    let free =
    room g.word (take max_table c.args.table.now) g.places.now l.places l.found l.rest word_bits l.invariant.1 (bit-within c) (lowest-within c) (fits c) in
    omega (arith, free, room_of.named, room_of.counted)

pub offset_bounds-places-found : goal.offset_bounds-places-found
offset_bounds-places-found c = omega (arith, found_within (goal.at.offset_bounds-places-found c).Else-count-lowest)

pub bounds-places-found : goal.bounds-places-found
bounds-places-found c = found_within (goal.at.bounds-places-found c).Else-count-lowest

pub loop-rest-preserved : goal.loop-rest-preserved
loop-rest-preserved c = let g = c.args in
    let l = c.loop-rest in
    let same = get_or-take max_table g.table.now (count_trailing_zeros word_bits l.rest) 0 (omega (arith, lowest-within (goal.at.loop-rest-preserved c).Else-count-lowest, few c.args.table.now)) in (
      l.invariant.0,
      rw (← same)
          (collected-one g.word (take max_table c.args.table.now) g.places.now l.places l.found l.rest word_bits l.invariant.1
          (bit-within (goal.at.loop-rest-preserved c).Else-count-lowest) (lowest-within (goal.at.loop-rest-preserved c).Else-count-lowest) (fits (goal.at.loop-rest-preserved c).Else-count-lowest)),
    )

pub returns : goal.returns
returns c =
    let g = c.args in
    let l = c.loop-rest in
    let none : l.rest ≡ 0 = omega (arith, c.loop-rest-test.false) in
    let all = collected-all g.word (take max_table g.table.now) g.places.now l.places l.found l.rest word_bits l.invariant.1 (rw (none, trailing_of_zero word_bits) (le_trans (few g.table.now) table-in-word)) in
    record { counted = all.0; left = all.1 }
