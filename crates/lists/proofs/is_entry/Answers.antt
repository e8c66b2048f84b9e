-- `is_entry`: entry and version are compared turned.
use native.Mathlib.Omega.{arith}
use lib.ListN.{get_or}
use Rattle.lists.specs.Wire.{entries}
use Rattle.lists.proofs.Turning.{turned-eqb}
use Rattle.lists.proofs.is_entry.Goals as goal

pub returns : goal.returns
returns c = let word = c.word_at-word.ensures in
    let entry = get_or (entries c.args.bytes.now) c.args.place 0 in
    rw (word.0, c.turned-sought.ensures) (turned-eqb entry c.args.version word.1 (omega (arith, c.ranges.version)))
