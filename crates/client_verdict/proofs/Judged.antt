-- What is judged of any record value, and the step of one that could be an attempt's.
use Prim.Native.Nat.{ℕ, ◌≤◌}
use mathlib.Core.Bool.{true}
use mathlib.Core.List.{List}
use mathlib.Core.Path.{◌≡◌}
use borrow.Author.Tests.{leb-true}
use Rattle.refusals.proofs.Rules.{both_true}
use Rattle.versions.specs.Limits.{max_table}
use Rattle.attempt.specs.Step.{step_of, step_of_any, counts_fit, could_be_attempt}
use Rattle.attempt.specs.declared.Attempt.{Attempt}
use Rattle.attempt.specs.Event.{Event}

pub counts-table : (a : Attempt) → counts_fit a ≡ true → a.table_len ≤ max_table
counts-table a h = leb-true _ _ (both_true _ _ h).0

pub any-accepted : (a : Attempt) (e : Event) (bytes : List ℕ) → could_be_attempt a ≡ true → step_of a e bytes ≡ step_of_any a e bytes
unfolding step_of_any
any-accepted a e bytes h = rw h
