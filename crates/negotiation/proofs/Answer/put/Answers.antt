-- `put` meets its contract: the front, the IDs and the two lists are put one behind the other.
use Rattle.negotiation.proofs.Writing.{put_parts}
use Rattle.negotiation.proofs.Answer.put.Goals as goal

pub returns : goal.returns
returns c = let self = c.args.self.now in
    put_parts self.destination.now self.source.now self.offered.now self.reserved.now c.args.buffer.now
    self.unused_bits c.put_front.new.buffer c.put_id.new.buffer c.put_id-2.new.buffer c.put_list.new.buffer
    c.put_list-2.new.buffer c.requires.room
    c.put_front.ensures c.put_id.ensures c.put_id-2.ensures c.put_list.ensures.left c.put_list-2.ensures.left
