-- `put_values`: after i values the places begin with them, and go on as they were.
use mathlib.Core.List.{List}
use mathlib.Core.Path.{ap, ◌∙◌}
use native.Mathlib.Nat.{lt_of_lt_of_le}
use lib.ListN.{get_or, length-set, set}
use Rattle.lists.proofs.Places.{copy_step}
use Rattle.lists.proofs.put_values.Goals as goal

pub loop-i-preserved : goal.loop-i-preserved
loop-i-preserved g c =
    let values = c.args.values.now in
    let l = c.loop-i in
    let x = c.index-values-i.result in
    let room = lt_of_lt_of_le c.loop-i-test.true c.if-places-values.false in (
      length-set l.places l.i x ∙ l.invariant.0,
      ap (set l.places l.i) c.index-values-i.is ∙
          ap (λ (places : List _). set places l.i (get_or values l.i x)) l.invariant.1 ∙
          copy_step values c.args.places.now l.i x c.loop-i-test.true room,
    )
