-- What a call of document 01 answers: a refusal, which "carries no other value" than its number and its close
-- code, or the value asked for.
use Rattle.std.specs.Prelude.{ℕ, Option, Result, Ok, Err}
use Rattle.refusals.specs.Close.{close_of}
use Rattle.refusals.specs.declared.Call.{Call}
use Rattle.refusals.specs.declared.Call.TheVariants.{Reading}
use Rattle.refusals.specs.declared.Refusal.{Refusal}

pub data Reply (A : Type 0) : Type 0 where
  refused : ℕ → Option ℕ → Reply A
  answered : A → Reply A

-- The number of an answer: that of its refusal, 0 where there is none
abbrev pub refusal_of : {A : Type 0} → Reply A → ℕ
refusal_of (refused n c) = n
refusal_of (answered a) = 0

-- The refusal of a number by a kind of call
abbrev pub refuse : {A : Type 0} → Call → ℕ → Reply A
refuse call n = refused n (close_of n call)

-- The result of a call that reads, of the server's choice, or of an event
abbrev pub read_reply : {A : Type 0} → Result A Refusal → Reply A
read_reply (Ok a) = answered a
read_reply (Err r) = refuse Reading r.0
