-- What a writer answers, and what it leaves in the lent buffer. Document 01: "The answer is the byte count";
-- "Bytes of the buffer past it keep their values"; "Every refusal leaves lent buffers as found".
use Rattle.std.specs.Prelude.{ℕ, List, ◌++◌, length, drop, Result, Ok, Err}
use Rattle.refusals.specs.Reply.{Reply, Reply.refused, Reply.answered, refuse}
use Rattle.refusals.specs.declared.Call.TheVariants.{Writing}
use Rattle.refusals.specs.declared.Refusal.{Refusal}

-- The result of a writer: how many bytes of the lent buffer it wrote, or a refusal
abbrev pub written_reply : Result ℕ Refusal → Reply ℕ
written_reply (Ok n) = answered n
written_reply (Err r) = refuse Writing r.0

-- The count that goes with the bytes that a writer has to write
abbrev pub counted : Reply (List ℕ) → Reply ℕ
counted (refused n c) = refused n c
counted (answered bytes) = answered (length bytes)

-- The buffer after it
abbrev pub leaves : Reply (List ℕ) → List ℕ → List ℕ
leaves (refused n c) buffer = buffer
leaves (answered bytes) buffer = bytes ++ drop (length bytes) buffer
