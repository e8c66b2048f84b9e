-- After i versions the buffer is their bytes, and what stood behind them.
use mathlib.Core.Path.{refl, ◌∙◌}
use native.Mathlib.Omega.{arith}
use Rattle.lists.specs.Wire.{list_bytes}
use Rattle.lists.proofs.Entries.{put_step}
use Rattle.lists.proofs.put_list.Goals as goal

pub loop-i-init : goal.loop-i-init
unfolding list_bytes
loop-i-init c = (refl, refl, refl)

pub loop-i-preserved : goal.loop-i-preserved
loop-i-preserved c = let args = c.args in
    let step = put_step args.versions.now args.buffer.now c.loop-i.buffer c.loop-i.i (omega arith) c.loop-i.invariant.2 in
    (refl, c.put_at.auto.buffer ∙ c.loop-i.invariant.1, c.put_at.ensures ∙ step)
