-- `write_record_information` meets its contract: a record that is none is refused; of another the part of the array that is
-- handed on is its own list.
use Prim.Native.Nat.{ℕ, ◌≤◌}
use mathlib.Core.Bool.{true}
use mathlib.Core.List.{List}
use mathlib.Core.Path.{◌≡◌, sym, ◌∙◌}
use native.Mathlib.Omega.{arith}
use lib.ListN.{length, take, drop, length-append}
use lib.Seq.{take_at, length-take-le}
use Rattle.attempt.specs.Attempt.{over, own_of}
use Rattle.c_record.specs.Records.{is_record, attempt_of, own_record, record_information}
use Rattle.c_record.proofs.OwnRecords.{count-is, count-none}
use Rattle.c_record.proofs.attempts.write_record_information.Goals.{In-Some}
use Rattle.c_record.proofs.attempts.write_record_information.Goals as goal

-- A list over the front of what was found lies within it, and is its part of so many entries
front-within : (own found places : List ℕ) (count : ℕ) → count ≡ length own → places ≡ over own found → count ≤ length places
front-within own found places count n p = rw (n, p) (omega (arith, length-append own (drop (length own) found)))

front-is : (own found places : List ℕ) (count : ℕ) → count ≡ length own → places ≡ over own found → take count places ≡ own
front-is own found places count n p = rw p (take_at own (drop (length own) found) count (sym n))

-- The own list lies at the array's front
own : (c : In-Some) → (is_record c.args.held ≡ true) × (c.in-Some.count ≡ length (own_record c.args.held))
own c = count-is c.args.held c.in-Some.count (sym c.in-Some.is ∙ c.put_own.ensures.answer)

within : (c : In-Some) → c.in-Some.count ≤ length c.put_own.new.versions
within c = front-within (own_record c.args.held) _ _ _ (own c).1 c.put_own.ensures.left

handed : (c : In-Some) → take c.in-Some.count c.put_own.new.versions ≡ own_record c.args.held
handed c = front-is (own_record c.args.held) _ _ _ (own c).1 c.put_own.ensures.left

pub returns-in_default : goal.returns-in_default
unfolding record_information
returns-in_default c = let none = count-none c.args.held (sym c.in_default.is ∙ c.put_own.ensures.answer) in
    record { answer = rw none; left = rw none }

pub slice_bounds-versions-end : goal.slice_bounds-versions-end
slice_bounds-versions-end c = within (goal.at.slice_bounds-versions-end c).In-Some

pub slice_bounds-write_as_sent-end : goal.slice_bounds-write_as_sent-end
slice_bounds-write_as_sent-end c = sym (length-take-le _ _ (within (goal.at.slice_bounds-write_as_sent-end c).In-Some))

pub returns : goal.returns
unfolding record_information own_record attempt_of
returns c = let known = (own (goal.at.returns c).In-Some).0 in
    let same : take c.in-Some.count c.put_own.new.versions ≡ own_of (attempt_of c.args.held) =
    handed (goal.at.returns c).In-Some ∙ rw known in
    rw (known, sym same) c.write_as_sent.ensures
