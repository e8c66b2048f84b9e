-- `own_list`: the members by the attempted version's word, put over zeros, are the own list in places.
use Prim.Native.Nat.{ℕ, ◌≤◌, min}
use mathlib.Core.Path.{◌≡◌, sym, ap, ◌∙◌}
use native.Mathlib.Omega.{arith}
use lib.ListN.{length, take, length-take}
use lib.Seq.{take_all}
use borrow.Author.Rules.{rules}
use Rattle.versions.specs.Limits.{max_table}
use Rattle.attempt.specs.Attempt.{padded, table_of, own_of}
use Rattle.versions.specs.Words.{members}
use Rattle.attempt.proofs.Walks.{take-cut}
use Rattle.attempt.proofs.own.own_list.Goals.{After-min-count}
use Rattle.attempt.proofs.own.own_list.Goals as goal

-- the part of the array that is read is the table
read : (c : After-min-count) → take c.min-count.result c.args.attempt.table ≡ table_of c.args.attempt
read c =
    let a = c.args.attempt in
    let wide : length a.table ≡ max_table = search rules in
    let cut : c.min-count.result ≡ min a.table_len (length a.table) = c.min-count.ensures ∙ ap (min a.table_len) (sym wide) in
    ap (λ (n : ℕ). take n a.table) cut ∙ take-cut a.table a.table_len

pub returns : goal.returns
unfolding own_of padded
returns c = let a = c.args.attempt in
    let table = take c.min-count.result a.table in
    let few : length table ≤ max_table =
    let l = length-take c.min-count.result a.table in
    let k = c.min-count.ensures in
    omega arith in
    let own : members c.word_of-word.result (take max_table table) ≡ own_of a =
    rw (take_all max_table table few, c.word_of-word.ensures, read (goal.at.returns c).After-min-count) in
    let put = c.put_members-found.ensures in
    rw (put.counted, put.left, own)
