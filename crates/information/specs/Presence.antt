-- Version Information that the handshake had, or that is missing.
use Rattle.std.specs.Prelude.{ℕ, List, [], Option, None, Some}
use Rattle.std.specs.Borrow.{Bor}

-- Document 01: "Version Information, or .. that it is missing"
pub data Presence : Type 0 where
  Missing : Presence
  Given : Presence

-- What is handed over, none where it is missing: whether it is there, and its bytes
abbrev pub presence_of : Option (Bor (List ℕ)) → Presence
presence_of None = Missing
presence_of (Some bytes) = Given

abbrev pub bytes_given : Option (Bor (List ℕ)) → List ℕ
bytes_given None = []
bytes_given (Some bytes) = bytes.now
