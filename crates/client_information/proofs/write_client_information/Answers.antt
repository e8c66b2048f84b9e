-- `write_client_information`: the part of the array that is handed on is the record's own list.
use Prim.Native.Nat.{◌≤◌}
use mathlib.Core.Path.{◌≡◌, refl, sym}
use native.Mathlib.Omega.{arith}
use borrow.Author.Rules.{rules}
use lib.ListN.{length, take, drop, replicate, length-append}
use lib.Seq.{take_at}
use Rattle.versions.specs.Limits.{max_table}
use Rattle.attempt.specs.Attempt.{padded, own_of}
use Rattle.client_information.proofs.write_client_information.Goals.{After-own_list-own}
use Rattle.client_information.proofs.write_client_information.Goals as goal

-- The own list lies within the array
within : (c : After-own_list-own) → c.own_list-own.result.count ≤ length c.own_list-own.result.versions
unfolding padded
within c =
    let own = own_of c.args.attempt in
    rw c.own_list-own.ensures (omega (arith, length-append own (drop (length own) (replicate max_table 0))))

-- It is the part that is handed on
handed : (c : After-own_list-own) → take c.own_list-own.result.count c.own_list-own.result.versions ≡ own_of c.args.attempt
unfolding padded
handed c =
    let own = own_of c.args.attempt in
    rw c.own_list-own.ensures (take_at own (drop (length own) (replicate max_table 0)) (length own) refl)

pub shared_ref_as_front-write_as_sent : goal.shared_ref_as_front-write_as_sent
shared_ref_as_front-write_as_sent c =
    let wide : length c.own_list-own.result.versions ≡ max_table = search rules in
    omega (arith, wide, within (goal.at.shared_ref_as_front-write_as_sent c).After-own_list-own)

pub returns : goal.returns
returns c = rw (sym (handed (goal.at.returns c).After-own_list-own)) c.write_as_sent.ensures
