-- `chooses_again` meets its contract: the rest of the table answers for the whole.
use Prim.Native.Nat.{ℕ}
use mathlib.Core.List.{[], ◌∷◌, ◌++◌}
use mathlib.Core.Path.{sym, ap, ◌∙◌}
use Rattle.std.specs.Prelude.{Option}
use Rattle.choosing.proofs.Chosen.{preferred-here, preferred-next, preferred-end}
use Rattle.lists.specs.Wire.{entries}
use Rattle.attempt.specs.Step.{picks}
use Rattle.client_outcome.proofs.judging.chooses_again.Goals as goal

pub returns-then-is_listed : goal.returns-then-is_listed
returns-then-is_listed c = let g = c.args in
    let l = c.loop-version in
    let list = entries g.available.now ++ (g.in_use ∷ []) in
    let here = preferred-here list g.table.now l.version-index c.loop-version-test.true (sym c.is_listed.ensures ∙ c.if-is_listed.true) in
    sym (ap (λ (o : Option ℕ). picks o g.attempted) (l.invariant ∙ here))

pub loop-version-preserved : goal.loop-version-preserved
loop-version-preserved c = let g = c.args in
    let l = c.loop-version in
    let list = entries g.available.now ++ (g.in_use ∷ []) in
    l.invariant ∙
    preferred-next list g.table.now l.version-index c.loop-version-test.true (sym c.is_listed.ensures ∙ c.if-is_listed.false)

pub returns : goal.returns
returns c = let g = c.args in
    let l = c.loop-version in
    let list = entries g.available.now ++ (g.in_use ∷ []) in
    let none = preferred-end list g.table.now l.version-index c.loop-version-test.false in
    sym (ap (λ (o : Option ℕ). picks o g.attempted) (l.invariant ∙ none))
