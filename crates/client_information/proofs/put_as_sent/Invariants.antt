-- `put_as_sent` meets its contract. The loop's invariant: what was put, and the list from the place on, make up the whole.
use Rattle.client_information.proofs.Sending.{Sending}
use Rattle.client_information.proofs.put_as_sent.Given as goal

abbrev pub invariant-loop-place : goal.invariant-loop-place
invariant-loop-place l = Sending l.own l.reserved l.initial.buffer l.buffer l.next l.place
