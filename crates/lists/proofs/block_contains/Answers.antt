-- What was found so far, or the entries behind, answer for all from the place on.
use Prim.Native.Nat.{◌+◌, ◌<◌}
use mathlib.Core.Path.{◌∙◌}
use native.Mathlib.Omega.{arith}
use lib.ListN.{length}
use Rattle.lists.specs.Wire.{entries}
use Rattle.lists.proofs.Entries.{length-entries, block-turn}
use Rattle.lists.proofs.block_contains.Goals as goal

pub loop-k-preserved : goal.loop-k-preserved
loop-k-preserved c = let args = c.args in
    let list = entries args.bytes.now in
    let inside : args.from + c.loop-k.k < length list = rw (length-entries args.bytes.now) (omega arith) in
    c.loop-k.invariant ∙ block-turn args.version list args.from c.loop-k.k c.loop-k.found _ inside c.is_entry-found.ensures
