-- Document 01: "the lowest number that applies is given, and only then". The refusals of a call are a list of
-- rules in rising order, each a number and the paper's condition as a test; the first that applies is given. Beside each
-- list of rules a theorem says that its numbers rise (`rising`), and `lowest-number-given` that the first that applies
-- is then the lowest.
use Rattle.std.specs.Prelude.{ℕ, Bool, true, false, not, ◌&&◌, ◌||◌, List, [], ◌∷◌, eqb, ltb}
use Rattle.std.specs.Prelude.{Option, None, Some}
use Rattle.refusals.specs.Reply.{Reply, refuse}
use Rattle.refusals.specs.declared.Call.{Call}

infix 15 ◌when◌
pub data Rule : Type 0 where
  ◌when◌ : ℕ → Bool → Rule

-- What the lowest rule that applies makes of its number, or, where none applies, the other value
abbrev pub lowest : {B : Type 0} → (ℕ → B) → List Rule → B → B
lowest refusal [] other = other
lowest refusal ((n when true) ∷ rules) other = refusal n
lowest refusal ((n when false) ∷ rules) other = lowest refusal rules other

-- The refusal that the rules give, or, where none applies, the answer
abbrev pub judged : {A : Type 0} → Call → List Rule → Reply A → Reply A
judged call rules answer = lowest (refuse call) rules answer

-- None of the rules applies
abbrev pub clear : List Rule → Bool
clear [] = true
clear ((n when applies) ∷ rules) = not applies && clear rules

-- The number that the rules give, if one applies
abbrev pub number_given : List Rule → Option ℕ
number_given rules = lowest Some rules None

-- The number is that of a rule which applies
abbrev pub applies : ℕ → List Rule → Bool
applies n [] = false
applies n ((m when test) ∷ rules) = (test && eqb m n) || applies n rules

-- Each number of the rules is below the next
abbrev pub rising : List Rule → Bool
rising [] = true
rising ((n when test) ∷ []) = true
rising ((n when test) ∷ (m when next) ∷ rules) = ltb n m && rising ((m when next) ∷ rules)
