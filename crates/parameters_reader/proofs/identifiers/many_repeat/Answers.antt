-- `many_repeat`: what occurs twice does so among those of its size.
use mathlib.Core.Path.{refl, sym, ◌∙◌}
use Rattle.parameters_reader.specs.Sizes.{large}
use Rattle.parameters_reader.proofs.Twice.{repeats-by-size}
use Rattle.parameters_reader.proofs.identifiers.many_repeat.Goals as goal

pub returns-then-side_repeats : goal.returns-then-side_repeats
returns-then-side_repeats c = sym (repeats-by-size large _ ∙ rw (← c.side_repeats.ensures, c.if-side_repeats.true) refl)

pub returns-else-side_repeats : goal.returns-else-side_repeats
returns-else-side_repeats c = sym (repeats-by-size large _ ∙ rw (← c.side_repeats.ensures, c.if-side_repeats.false, ← c.side_repeats-else-side_repeats.ensures) refl)
