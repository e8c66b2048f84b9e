-- `write_version_negotiation`: what is left to judge of a long form.
use mathlib.Core.Path.{sym, ap, ◌∙◌}
use lib.ListN.{length}
use Rattle.std.specs.Prelude.{Ok}
use Rattle.invariants.specs.Header.{header_reply}
use Rattle.negotiation.proofs.Received.{long-known}
use Rattle.negotiation.proofs.write_version_negotiation.Goals as goal

pub returns-in-Ok-Long : goal.returns-in-Ok-Long
returns-in-Ok-Long c =
    let is = c.in-Ok-Long.is ∙ ap Ok (rw c.in-Ok-Long.is at c.in-Ok-Long.field-0-is) in
    let k = long-known _ _ _ _ _ (sym c.read_header-header.ensures ∙ ap header_reply is) in
    let e = k.judges c.args.offered.now c.args.reserved.now c.args.unused_bits (length c.args.buffer.now) c.if-received-lt-MIN_ANSWERED_DATAGRAM.false in
    record {
      answer = rw (e, ← k.destination-is, ← k.source_is) c.write.ensures.answer;
      left = rw (e, ← k.destination-is, ← k.source_is) c.write.ensures.left;
    }
