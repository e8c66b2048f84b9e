-- `scan`: up to the next entry that stands, then past it.
use Prim.Native.Nat.{◌-◌, ◌<◌}
use mathlib.Core.Path.{ap, ◌∙◌}
use native.Mathlib.Omega.{arith}
use lib.ListN.{length, take, drop}
use Rattle.lists.specs.Wire.{entries, version_bytes}
use Rattle.lists.proofs.Entries.{length-entries, drop-entries}
use Rattle.versions.proofs.Lists.{part-rest}
use Rattle.slots.specs.Slots.{Scanned}
use Rattle.slots.specs.declared.slot.Factor.{Factor}
use Rattle.slots.proofs.Laws.{scan_on, scan_hit}
use Rattle.slots.proofs.scan.scan.Goals.{After-empty}
use Rattle.slots.proofs.scan.scan.Goals as goal

-- Past the entry that stood
past : (c : After-empty) → (let hit = c.from_hit-hit.result.now in
    Scanned c.args.slots.now.words c.empty.new.self.words (entries c.args.bytes.now)
    (entries (take (length hit - version_bytes) (drop version_bytes hit))) c.args.slots.now.factor.value)
past c =
    let slots = c.loop-hit.slots in
    let hit = c.from_hit-hit.result.now in
    let factor = ap (λ (f : Factor). f.value) c.loop-hit.invariant.0 in
    let told = c.from_hit-hit.ensures in
    let word = c.word_at-word.ensures in
    let inside : 0 < length (entries hit) = omega (arith, length-entries hit) in
    rw (part-rest hit version_bytes, ← drop-entries 1 hit, ← factor)
    (scan_hit _ slots.words _ _ (entries hit) _ slots.factor.kept (scan_on _ _ _ _ _ _ (rw (← factor) at c.loop-hit.invariant.1) told) inside word.1
    (told.hit inside) (rw word.0 at c.empty.ensures.emptied))

pub returns-then-is_among_first-clause-scanned : goal.returns-then-is_among_first-clause-scanned
returns-then-is_among_first-clause-scanned c = past (goal.at.returns-then-is_among_first-clause-scanned c).After-empty

pub loop-hit-preserved : goal.loop-hit-preserved
loop-hit-preserved c = (c.empty.ensures.kept ∙ c.loop-hit.invariant.0, past (goal.at.loop-hit-preserved c).After-empty)
