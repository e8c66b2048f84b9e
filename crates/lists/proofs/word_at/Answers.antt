-- `word_at`: the four bytes of an entry, the last one first.
use mathlib.Core.Path.{◌∙◌}
use native.Mathlib.Omega.{arith}
use borrow.Author.Rules.{rules}
use Rattle.lists.proofs.Turning.{word_of}
use Rattle.lists.proofs.word_at.Goals as goal

pub returns : goal.returns
returns c = let known = c.shared_slice_known-5-1 in
    let args = c.args in
    let word = word_of args.bytes.now args.place (search rules) (λ i. omega (arith, known.given i)) in
    (c.big_endian.ensures ∙ word.0, word.1)
