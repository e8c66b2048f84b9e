-- The limits of RFC 8999's headers, each named once.
use Rattle.std.specs.Prelude.{ℕ}

-- Document 01: "A datagram has 0 to 65,535 bytes"
abbrev pub max_datagram : ℕ
max_datagram = 65535

-- Document 01: "Each ID has 0 to 255 bytes"
abbrev pub max_connection_id : ℕ
max_connection_id = 255
