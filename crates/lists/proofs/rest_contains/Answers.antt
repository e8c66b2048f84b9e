-- The entries from the place on answer for all from the first place on.
use Prim.Native.Nat.{◌<◌, ◌≤◌}
use mathlib.Core.Path.{refl, sym, ◌∙◌}
use native.Mathlib.Omega.{arith}
use borrow.Author.Tests.{eqb-true, eqb-false}
use lib.ListN.{length}
use Rattle.versions.proofs.Lists.{elem-here, elem_next, elem_end}
use Rattle.lists.specs.Wire.{entries}
use Rattle.lists.proofs.Entries.{length-entries}
use Rattle.lists.proofs.rest_contains.Goals.{In-loop-i}
use Rattle.lists.proofs.rest_contains.Goals as goal

-- The place is inside the list
inside : (c : In-loop-i) → c.loop-i.i < length (entries c.args.bytes.now)
inside c = rw (length-entries c.args.bytes.now) (omega arith)

pub returns-then-is_entry : goal.returns-then-is_entry
returns-then-is_entry c =
    let same = eqb-true _ _ (sym c.is_entry.ensures ∙ c.if-is_entry.true) in
    sym
    (c.loop-i.invariant.1 ∙
    elem-here c.args.version (entries c.args.bytes.now) c.loop-i.i (inside (goal.at.returns-then-is_entry c).In-loop-i) same)

pub loop-i-preserved : goal.loop-i-preserved
loop-i-preserved c =
    let other = eqb-false _ _ (sym c.is_entry.ensures ∙ c.if-is_entry.false) in (
      refl,
      c.loop-i.invariant.1 ∙
          elem_next c.args.version (entries c.args.bytes.now) c.loop-i.i (inside (goal.at.loop-i-preserved c).In-loop-i) other,
    )

pub returns : goal.returns
returns c = let bytes = c.args.bytes.now in
    let over : length (entries bytes) ≤ c.loop-i.i = rw (length-entries bytes) (omega arith) in
    sym (c.loop-i.invariant.1 ∙ elem_end c.args.version (entries bytes) c.loop-i.i over)
