-- The limit of the server's choice, named once.
use Rattle.std.specs.Prelude.{ℕ}

-- Document 02, C-17: "The box likewise takes up to 64 barred versions, of any value"
abbrev pub max_barred : ℕ
max_barred = 64
