-- The numbers of the rules rise, so the lowest that applies is given: the reader's, and in the writer those of the old
-- sequence, then those of the new one.
use Prim.Native.Nat.{ℕ}
use mathlib.Core.Bool.{true}
use mathlib.Core.List.{List}
use mathlib.Core.Path.{◌≡◌, refl}
use Rattle.refusals.specs.Rule.{rising}
use Rattle.parameters.specs.Reading.{sequence_rules}
use Rattle.parameters.specs.Sequence.{Field, field_rules}
use Rattle.parameters.specs.Writing.{Content, new_rules}

-- 81
pub field-rises : (s : List ℕ) (f : Field) → rising (field_rules s f) ≡ true
field-rises s f = refl

-- 80, 81, 82, 85
pub sequence-rises : (s : List ℕ) → rising (sequence_rules s) ≡ true
sequence-rises s = refl

-- 80, 84, 85
pub new-rises : (new : List Content) (room : ℕ) → rising (new_rules new room) ≡ true
new-rises new room = refl
