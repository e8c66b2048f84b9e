-- `put_as_sent` meets its contract. The loop's invariant: what was put, and the list from the place on, make up the whole.
use Rattle.client_information.proofs.Sending.{sending-begins, sending-turn, sending-ends}
use Rattle.client_information.proofs.put_as_sent.Goals as goal

pub loop-place-init : goal.loop-place-init
loop-place-init c = sending-begins _ _ _

pub loop-place-preserved : goal.loop-place-preserved
loop-place-preserved c =
    sending-turn c.loop-place.invariant c.requires c.loop-place-test.true c.given_for-given.ensures c.sent_at-version.ensures
    c.own_after-next.ensures c.put_list.ensures.left

pub returns : goal.returns
returns c = sending-ends c.loop-place.invariant c.loop-place-test.false
