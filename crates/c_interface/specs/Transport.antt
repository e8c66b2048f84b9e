-- What is read of integers and transport parameters, as numbers.
use Rattle.std.specs.Prelude.{ℕ}
use Rattle.std.specs.Prelude.{Option, None, Some}
use Rattle.integers.specs.Integers.{Found}
use Rattle.lists.specs.declared.Span.{Span}

abbrev pub value_in : Found → ℕ
value_in found = found.value

abbrev pub width_in : Found → ℕ
width_in found = found.width

-- Whether Version Information is there: 0 missing, 1 given
abbrev pub given_number : Option Span → ℕ
given_number None = 0
given_number (Some place) = 1

-- Where it lies; 0 where it is missing
abbrev pub place_start : Option Span → ℕ
place_start None = 0
place_start (Some place) = place.start

abbrev pub place_end : Option Span → ℕ
place_end None = 0
place_end (Some place) = place.end
