-- `word_at`: the four bytes of an entry, the last one first.
use mathlib.Core.Path.{◌∙◌}
use native.Mathlib.Omega.{arith}
use borrow.Author.Rules.{rules}
use Rattle.lists.proofs.Turning.{word_of}
use Rattle.slots.proofs.slot.word_at.Goals as goal

pub returns : goal.returns
returns c = let args = c.args in
    let word = word_of args.bytes.now args.place (search rules) (λ i. omega (arith, c.type_inv.bytes i)) in
    (c.big_endian.ensures ∙ word.0, word.1)
