-- What a private function of the writer answers. No public promise names it.
use Rattle.std.specs.Prelude.{ℕ, ◌+◌}
use Rattle.std.specs.Prelude.{Option, None, Some}

-- The place of the own version that is next after a place: one further, but where a number is given for that place
abbrev pub next_after : Option ℕ → ℕ → ℕ
next_after (Some number) next = next
next_after None next = next + 1
