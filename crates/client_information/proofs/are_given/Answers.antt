-- `are_given` meets its contract. The loop's invariant: the rest of those that are given answers for the whole.
use Prim.Native.Nat.{◌+◌, ◌≤◌, ◌<◌}
use mathlib.Core.Bool.{true}
use mathlib.Core.List.{[]}
use mathlib.Core.Path.{◌≡◌, sym, ap, ◌∙◌}
use native.Mathlib.Omega.{arith}
use borrow.Author.Tests.{lt-leb, le-leb}
use lib.ListN.{length, drop, get_or}
use Rattle.versions.specs.Limits.{max_reserved}
use Rattle.versions.specs.Version.{reserved}
use Rattle.versions.proofs.Lists.{part-rest}
use Rattle.attempt.specs.AsSent.{number_in, place_in, is_taken, given_keep_rule}
use Rattle.client_information.proofs.Given.{keeps-not-reserved, keeps-past-end, keeps-twice, keeps-next, keeps-end}
use Rattle.client_information.proofs.are_given.Goals.{After-is_taken, Else-entries-one, Else-not-is_reserved}
use Rattle.client_information.proofs.are_given.Goals as goal

-- Its number is reserved
is_one : (c : Else-not-is_reserved) → reserved (number_in (get_or c.args.reserved.now c.loop-i.i [])) ≡ true
is_one c = sym c.is_reserved.ensures ∙ c.if-not-is_reserved.false

-- Its place is in the list
inside : (c : Else-entries-one) → place_in (get_or c.args.reserved.now c.loop-i.i []) < c.args.entries
inside c = omega arith

-- Whether another has its number or its place, as `is_taken` answers
later :
    (c : After-is_taken) →
    is_taken (get_or c.args.reserved.now c.loop-i.i []) (drop (c.loop-i.i + 1) c.args.reserved.now) ≡ c.is_taken.result
later c =
    sym (c.is_taken.ensures ∙ ap (is_taken (get_or c.args.reserved.now c.loop-i.i [])) (part-rest c.args.reserved.now (c.loop-i.i + 1)))

pub returns-then-reserved-gt-MAX_RESERVED : goal.returns-then-reserved-gt-MAX_RESERVED
unfolding given_keep_rule
returns-then-reserved-gt-MAX_RESERVED c = let many : max_reserved < length c.args.reserved.now = omega arith in
    rw (lt-leb _ _ many)

pub loop-i-init : goal.loop-i-init
unfolding given_keep_rule
loop-i-init c = let few : length c.args.reserved.now ≤ max_reserved = omega arith in
    rw (le-leb _ _ few)

pub returns-then-not-is_reserved : goal.returns-then-not-is_reserved
returns-then-not-is_reserved c = sym
    (c.loop-i.invariant ∙
    keeps-not-reserved _ _ _ c.loop-i-test.true (sym c.is_reserved.ensures ∙ c.if-not-is_reserved.true))

pub returns-then-entries-one : goal.returns-then-entries-one
returns-then-entries-one c = let past : c.args.entries ≤ place_in (get_or c.args.reserved.now c.loop-i.i []) = omega arith in
    sym (c.loop-i.invariant ∙ keeps-past-end _ _ _ c.loop-i-test.true (is_one (goal.at.returns-then-entries-one c).Else-not-is_reserved) past)

pub returns-then-is_taken : goal.returns-then-is_taken
returns-then-is_taken c = sym
    (c.loop-i.invariant ∙
    keeps-twice _ _ _ c.loop-i-test.true (is_one (goal.at.returns-then-is_taken c).Else-not-is_reserved) (inside (goal.at.returns-then-is_taken c).Else-entries-one)
    (later (goal.at.returns-then-is_taken c).After-is_taken ∙ c.if-is_taken.true))

pub loop-i-preserved : goal.loop-i-preserved
loop-i-preserved c = let next =
    keeps-next c.args.entries c.args.reserved.now c.loop-i.i c.loop-i-test.true (is_one (goal.at.loop-i-preserved c).Else-not-is_reserved) (inside (goal.at.loop-i-preserved c).Else-entries-one)
    (later (goal.at.loop-i-preserved c).After-is_taken ∙ c.if-is_taken.false) in
    c.loop-i.invariant ∙ next

pub returns : goal.returns
returns c = sym (c.loop-i.invariant ∙ keeps-end _ _ _ c.loop-i-test.false)
