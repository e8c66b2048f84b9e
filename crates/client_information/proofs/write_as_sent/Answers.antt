-- `write_as_sent`: the tests in the order of the code are the rules in the order of their numbers.
use Prim.Native.Nat.{◌≤◌, ◌<◌}
use mathlib.Core.Path.{◌≡◌, refl, sym, ap, ◌∙◌}
use native.Mathlib.Omega.{arith}
use borrow.Author.Tests.{lt-ltb, le-ltb}
use lib.ListN.{length}
use Rattle.refusals.specs.Reply.{Reply.answered}
use Rattle.attempt.specs.AsSent.{sent_count, given_keep_rule}
use Rattle.client_information.specs.ClientInformation.{sent_length, information_as_sent}
use Rattle.client_information.proofs.Sending.{sent-both}
use Rattle.client_information.proofs.write_as_sent.Goals.{After-are_given, Else-buffer-count}
use Rattle.client_information.proofs.write_as_sent.Goals as goal

-- There is room: 37 does not apply
fits : (c : Else-buffer-count) → let args = c.args in sent_length args.own.now args.reserved.now ≤ length args.buffer.now
fits c = omega arith

-- Whether those that are given keep their rule, as `are_given` answers
as-judged :
    (c : After-are_given) →
    let args = c.args in
    given_keep_rule (sent_count args.own.now args.reserved.now) args.reserved.now ≡ c.are_given.result
as-judged c = sym c.are_given.ensures

pub returns-then-buffer-count : goal.returns-then-buffer-count
unfolding information_as_sent
returns-then-buffer-count c =
    let args = c.args in
    let short : length args.buffer.now < sent_length args.own.now args.reserved.now = omega arith in
    rw (lt-ltb _ _ short) (record { answer = refl; left = refl })

pub returns-then-not-are_given : goal.returns-then-not-are_given
unfolding information_as_sent
returns-then-not-are_given c =
    let at = goal.at.returns-then-not-are_given c in
    rw (le-ltb _ _ (fits at.Else-buffer-count), as-judged at.After-are_given ∙ c.if-not-are_given.true) (record { answer = refl; left = refl })

pub returns : goal.returns
unfolding information_as_sent
returns c =
    let at = goal.at.returns c in
    let room = fits at.Else-buffer-count in
    let kept = as-judged at.After-are_given ∙ c.if-not-are_given.false in
    let args = c.args in
    let put =
    sent-both args.chosen args.own.now args.reserved.now args.buffer.now _ _ room
    c.put_list.ensures.left
    c.put_as_sent.ensures in
    rw (le-ltb _ _ room, kept) (record { answer = ap answered put.0; left = put.1 })
