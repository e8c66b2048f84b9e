-- How an outcome is judged along the code. Private functions promise this; no public promise names it.
use Rattle.std.specs.Prelude.{ℕ, List, Result, Ok, Err}
use Rattle.refusals.specs.Rule.{Rule, lowest}
use Rattle.lists.specs.Wire.{entries}
use Rattle.attempt.specs.Step.{After, closed, completed, outcome_rules}
use Rattle.attempt.specs.declared.Attempt.{Attempt}
use Rattle.client_verdict.specs.Verdicts.{applied}
use Rattle.client_outcome.specs.declared.ByTable.{ByTable}
use Rattle.client_verdict.specs.declared.Verdict.{Verdict}

-- The attempt ends: closed by the first rule that applies, else completed with the version in use
abbrev pub ends_by : Attempt → ℕ → List Rule → After
ends_by a in_use rules = lowest (closed a) rules (completed a in_use)

-- What a judgement leads to: a verdict, or what the table then tells
abbrev pub judgement_after : Attempt → ℕ → Result ByTable Verdict → After
judgement_after a in_use (Err v) = applied a v
judgement_after a in_use (Ok read) = ends_by a in_use (outcome_rules a in_use read.chosen (entries read.available.now))
