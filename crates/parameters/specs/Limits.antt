-- The limits of a sequence of transport parameters, and our identifier, each named once.
use Rattle.std.specs.Prelude.{ℕ}

-- Document 02, C-11: "a sequence over 16,384 bytes is an 80"
abbrev pub max_sequence : ℕ
max_sequence = 16384

-- "At most 64 parameters, else 85"
abbrev pub max_parameters : ℕ
max_parameters = 64

-- "Our parameter has identifier 0x11" (RFC 9368 section 10.1: version_information)
abbrev pub version_information : ℕ
version_information = 0x11
