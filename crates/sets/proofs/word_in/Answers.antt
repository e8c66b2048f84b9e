-- The word so far is that of the entries from i on.
use mathlib.Core.Path.{refl}
use native.Mathlib.Nat.{le_refl}
use native.Mathlib.Omega.{arith}
use Rattle.sets.proofs.Walk.{Turn, held-bit, walk_begins, next_fits, next_word}
use Rattle.sets.proofs.word_in.Goals.{In-loop-i}
use Rattle.sets.proofs.word_in.Goals as goal

pub loop-i-init : goal.loop-i-init
loop-i-init g c = (le_refl _, walk_begins c.args.table.versions.now (g.L.Versions.versions c.args.list))

-- A turn: what is walked over, and how far
turn : (g : _) (c : In-loop-i g) → Turn c.args.table.versions.now (g.L.Versions.versions c.args.list) c.loop-i.i c.loop-i.word
turn g c =
    record {
      kept = c.args.table.rule;
      not_done = c.loop-i-test.true;
      within = c.loop-i.invariant.0;
      so_far = c.loop-i.invariant.1;
    }

pub overflow_mul-word : goal.overflow_mul-word
overflow_mul-word g c = let fits = next_fits _ _ c.loop-i.i c.loop-i.word (turn g (goal.at.overflow_mul-word g c).In-loop-i) _ refl in
    omega (arith, fits)

pub overflow_add-word : goal.overflow_add-word
overflow_add-word g c = let fits = next_fits _ _ c.loop-i.i c.loop-i.word (turn g (goal.at.overflow_add-word g c).In-loop-i) c.from.result (held-bit _ _ _ c.from.ensures c.holds.ensures) in
    omega (arith, fits)

pub loop-i-preserved : goal.loop-i-preserved
loop-i-preserved g c = (omega arith, next_word _ _ c.loop-i.i c.loop-i.word (turn g (goal.at.loop-i-preserved g c).In-loop-i) c.from.result (held-bit _ _ _ c.from.ensures c.holds.ensures))
