-- `from_hit`: what a group without a hit passed over, the next does not need.
use mathlib.Core.Path.{◌∙◌}
use native.Mathlib.Omega.{arith}
use lib.ListN.{length-drop}
use Rattle.lists.specs.Wire.{entries}
use Rattle.lists.proofs.Entries.{drop-entries}
use Rattle.versions.proofs.Lists.{part-rest}
use Rattle.slots.specs.Limits.{group}
use Rattle.slots.proofs.scan.from_hit.Goals as goal

pub loop-rest-preserved : goal.loop-rest-preserved
loop-rest-preserved c = let rest = c.loop-rest.rest.now in
    rw (part-rest rest 64, ← drop-entries group rest) (
      omega (arith, length-drop group (entries rest)),
      λ v s. c.loop-rest.invariant.1 v s ∙ c.has_hit.ensures c.if-not-has_hit.true v s,
    )

pub returns : goal.returns
returns c = record {
  passed = λ v s. c.loop-rest.invariant.1 v s ∙ c.from_hit_in_rest.ensures.passed v s;
  shorter = omega arith;
  hit = c.from_hit_in_rest.ensures.hit;
}
