-- `put_rows`: from the barred pairs' end on, the rows so far are those with the rest of them barred.
use Prim.Native.Nat.{ℕ, ◌+◌, ◌-◌, ◌<◌}
use mathlib.Core.List.{List, []}
use mathlib.Core.Path.{◌≡◌, sym, ap, ◌∙◌}
use native.Mathlib.Omega.{arith}
use lib.ListN.{length, take, get_or}
use borrow.Author.Rules.{rules}
use Rattle.std.proofs.lemmas.Iterator.Adapters.{YieldsList-from_rev_slice}
use Rattle.std.proofs.lemmas.Iterator.Consumers.{YieldsList-turn, YieldsList-end}
use Rattle.std.proofs.lemmas.List.{length_push, length-reverse}
use Rattle.versions.specs.Limits.{max_table}
use Rattle.versions.specs.Pairs.{from_of, to_of}
use Rattle.versions.specs.Table.{place_of, place_in}
use Rattle.versions.specs.Words.{word_bits, marked}
use Rattle.versions.proofs.Lists.{table-counts}
use Rattle.versions.proofs.Searched.{place-there, place-none}
use Rattle.client_start.proofs.Rows.{barred-hit, barred-miss, barred-end, from_the_end}
use Rattle.client_start.proofs.words.put_rows.Goals.{In-Some, In-Some-place_of}
use Rattle.client_start.proofs.words.put_rows.Goals as goal

pub loop-excluded-init : goal.loop-excluded-init
loop-excluded-init c = let args = c.args in
    let all : length args.barred.now - 0 ≡ length args.barred.now = omega arith in
    rw all (c.mark_pairs.ensures ∙ barred-end args.table.versions.now args.pairs.now args.barred.now)

-- what a turn reads, and where the rest then begins
turn : (c : In-Some) →
    let list = c.args.barred.now in
    let k = length list - (length c.loop-excluded.yielded + 1) in
    (k < length list) × (length list - length c.loop-excluded.yielded ≡ k + 1) × ((d : List ℕ) → c.in-Some.excluded.now ≡ get_or list k d)
turn c =
    from_the_end c.args.barred.now (length c.loop-excluded.yielded) c.in-Some.excluded.now
    (YieldsList-turn (YieldsList-from_rev_slice {s = c.into_iter-excluded-iterator.result} c.args.barred.now (search rules))
    c.loop-excluded.yielded c.loop-excluded.excluded-iterator c.loop-excluded.yielded_by c.next.result c.next.new.self
    c.in-Some.excluded c.in-Some.is c.next.ensures.steps)

-- the place of its first member
found : (c : In-Some-place_of) →
    let list = c.args.barred.now in
    let v = from_of (get_or list (length list - (length c.loop-excluded.yielded + 1)) []) in
    (place_of v c.args.table.versions.now ≡ c.in-Some-place_of.from) × (c.in-Some-place_of.from < length c.args.table.versions.now)
found c =
    let v = ap (λ (p : List ℕ). place_in (from_of p) c.args.table.versions.now) ((turn (goal.at.In-Some-place_of c).In-Some).2 []) in
    place-there _ c.args.table.versions.now _ (c.in-Some-place_of.ensures ∙ v)

-- is one of a row
place-fits : (c : In-Some-place_of) → c.in-Some-place_of.from < max_table
place-fits c =
    let place = (found c).1 in
    let few = (table-counts c.args.table.versions.now c.args.table.rule).1 in
    omega (arith, place, few)

pub bounds-rows-from : goal.bounds-rows-from
bounds-rows-from c = place-fits (goal.at.bounds-rows-from c).In-Some-place_of

pub bounds-rows-from-in-Some-place_of : goal.bounds-rows-from-in-Some-place_of
bounds-rows-from-in-Some-place_of c = place-fits (goal.at.bounds-rows-from-in-Some-place_of c).In-Some-place_of

pub loop-excluded-preserved-in-Some-place_of : goal.loop-excluded-preserved-in-Some-place_of
loop-excluded-preserved-in-Some-place_of c =
    let table = c.args.table.versions.now in
    let list = c.args.barred.now in
    let l = c.loop-excluded in
    let at = goal.at.loop-excluded-preserved-in-Some-place_of c in
    let t = turn at.In-Some in
    let place = found at.In-Some-place_of in
    let from = sym place.0 in
    let marked_so = c.mark-bit.ensures ∙ ap (λ (p : List ℕ). marked (take word_bits table) (to_of p) 0) (t.2 []) in
    rw (length_push l.yielded c.in-Some.excluded, marked_so, l.invariant, from)
    (barred-hit table c.args.table.rule c.args.pairs.now list c.requires.1 (length list - (length l.yielded + 1)) (length list - length l.yielded) t.1 t.0 (rw place.0 place.1))

pub loop-excluded-preserved : goal.loop-excluded-preserved
loop-excluded-preserved c =
    let table = c.args.table.versions.now in
    let list = c.args.barred.now in
    let l = c.loop-excluded in
    let at = goal.at.loop-excluded-preserved c in
    let t = turn at.In-Some in
    let v = ap (λ (p : List ℕ). place_in (from_of p) table) (t.2 []) in
    rw (length_push l.yielded c.in-Some.excluded)
    (l.invariant ∙
    barred-miss table c.args.table.rule c.args.pairs.now list c.requires.1 (length list - (length l.yielded + 1)) (length list - length l.yielded) t.1 t.0
    (place-none _ table (c.in_default.ensures ∙ v)))

pub returns : goal.returns
returns c =
    let list = c.args.barred.now in
    let l = c.loop-excluded in
    let all = (YieldsList-end (YieldsList-from_rev_slice {s = c.into_iter-excluded-iterator.result} list (search rules))
    l.yielded l.excluded-iterator l.yielded_by
    c.next.result c.next.new.self c.in-None.is c.next.ensures.steps).1 in
    let done : length list - length l.yielded ≡ 0 = omega (arith, all, length-reverse list) in
    l.invariant ∙ rw done
