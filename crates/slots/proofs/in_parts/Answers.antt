-- `in_parts`: where the front has none, the rest has it.
use Prim.Native.Nat.{ℕ, ◌+◌}
use mathlib.Core.Path.{◌≡◌}
use native.Mathlib.Omega.{arith}
use borrow.Author.Rules.{rules}
use lib.ListN.{length}
use Rattle.std.specs.Prelude.{None, option_map}
use Rattle.lists.specs.Wire.{entries}
use Rattle.slots.proofs.Laws.{found_behind}
use Rattle.slots.proofs.in_parts.Goals as goal

pub returns : goal.returns
returns c =
    let mapped : c.map.result ≡ option_map (λ (place : ℕ). length c.split_at.result.0.now + place) c.by_passes.result = search rules in
    let none : c.by_slots.result ≡ None = search rules in
    let behind = found_behind c.min.result c.args.table.now (entries c.args.bytes.now) (omega arith) in
    grind (arith, behind, c.split_at.ensures.front_len, c.by_slots.ensures, c.by_passes.ensures, c.split_at.ensures.front, c.split_at.ensures.back)
