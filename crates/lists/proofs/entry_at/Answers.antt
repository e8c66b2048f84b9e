-- `entry_at`: the number at a place below the count is the entry there, and there is none at the count or past it.
use mathlib.Core.Path.{sym, ap, ◌∙◌}
use Rattle.std.specs.Prelude.{Some}
use native.Mathlib.Omega.{arith}
use Rattle.lists.proofs.Entries.{entry_at-some, entry_at-none}
use Rattle.lists.proofs.entry_at.Goals as goal

pub returns-then-place-bytes : goal.returns-then-place-bytes
returns-then-place-bytes c = ap Some c.number_at.ensures ∙ sym (entry_at-some _ _ (omega arith))

pub returns-else-place-bytes : goal.returns-else-place-bytes
returns-else-place-bytes c = sym (entry_at-none _ _ (omega arith))
