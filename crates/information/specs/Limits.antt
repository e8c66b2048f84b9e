-- The limits of Version Information, each named once.
use Rattle.std.specs.Prelude.{ℕ}

-- Document 01: "0 to 255 Available Versions"
abbrev pub max_available : ℕ
max_available = 255

-- Document 01: "4 to 1,024 bytes"
abbrev pub max_information : ℕ
max_information = 1024
