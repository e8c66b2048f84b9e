-- `few_repeat`: no number before a place occurs twice.
use mathlib.Core.Bool.{false}
use mathlib.Core.Path.{◌≡◌}
use lib.ListN.{take}
use Rattle.parameters.specs.Sequence.{repeats}
use Rattle.parameters_reader.proofs.identifiers.few_repeat.Given as goal

abbrev pub invariant-loop-i : goal.invariant-loop-i
invariant-loop-i l = repeats (take l.i l.ids) ≡ false
