-- What the server's packet is to the client whose first flight it answers: it fits, and the choice from its list is the choice
-- from what the server offers.
use Prim.Native.Nat.{ℕ}
use mathlib.Core.Bool.{true, false}
use mathlib.Core.List.{List, [], ◌∷◌}
use mathlib.Core.Path.{◌≡◌, refl, sym, ap, ◌∙◌}
use borrow.Author.Tests.{eq-eqb}
use Rattle.versions.specs.Table.{elem}
use Rattle.versions.proofs.Lists.{elem-append}
use Rattle.versions.proofs.WithoutReserved.{same-without, table-not-reserved}
use Rattle.choosing.specs.Choice.{preferred}
use Rattle.choosing.proofs.Laws.{preferred-by-membership}
use Rattle.invariants.specs.Header.{is_readable_negotiation, listed}
use Rattle.invariants.proofs.Negotiations.{negotiation_in, readable-is-read}
use Rattle.negotiation.specs.Laws.{ReadBack}
use Rattle.negotiation.specs.Packet.{list_sent}
use Rattle.negotiation.proofs.Packets.{negotiated, read_back}
use Rattle.attempt.specs.Demand.{fits}
use Rattle.attempt.specs.Start.{Input, is_accepted}
use Rattle.attempt.specs.Step.{same}
use Rattle.attempt.proofs.Keeps.{start-keeps}
use Rattle.both_ends.specs.Configuration.{Configuration}
use Rattle.both_ends.specs.Exchange.{Negotiated}
use Rattle.both_ends.proofs.Reserved.{sent-offered}

same-itself : (xs : List ℕ) → same xs xs ≡ true
unfolding same
same-itself [] = refl
same-itself (x ∷ xs) = rw (eq-eqb x x refl, same-itself xs)

module _ (c : Configuration) (x : Input) (packet : List ℕ) (n : Negotiated c x packet) where
  back : ReadBack n.flight (list_sent c.offered n.reserved) packet
  back = read_back n.flight c.offered n.reserved n.unused_bits n.room packet n.written n.bytes n.versions

  -- neither 24 nor 28 applied: the Original Version is not listed
  pub original-not-offered : elem x.original c.offered ≡ false
  original-not-offered =
      let clear = (negotiated n.flight c.offered n.reserved n.unused_bits n.room packet n.written).0.offer in
      ap (λ (v : ℕ). elem v c.offered) (sym n.version) ∙ clear.other

  original-not-listed : elem x.original (list_sent c.offered n.reserved) ≡ false
  original-not-listed =
      let clear = (negotiated n.flight c.offered n.reserved n.unused_bits n.room packet n.written).0.offer in
      elem-append x.original c.offered n.reserved ∙
      rw (original-not-offered, ← n.version) clear.not-received

  -- so none of 61, 63 and 64 applies
  pub packet-fits : fits x packet ≡ true
  packet-fits =
      let readable : is_readable_negotiation packet ≡ true = readable-is-read packet ∙ ap negotiation_in (back.reads 0) in
      rw (
        readable,
        back.destination-swapped ∙ n.source,
        back.source-swapped ∙ n.destination,
        back.list-kept,
        same-itself x.source,
        same-itself x.destination,
        original-not-listed,
      )

  -- reserved numbers are in no table
  pub packet-choice : is_accepted x ≡ true → preferred x.table (listed packet) ≡ preferred x.table c.offered
  packet-choice accepted =
      let rule = (negotiated n.flight c.offered n.reserved n.unused_bits n.room packet n.written).0.offer.numbers in
      ap (preferred x.table) back.list-kept ∙
      preferred-by-membership x.table (list_sent c.offered n.reserved) c.offered
      (λ v e.
      same-without (list_sent c.offered n.reserved) c.offered (sent-offered c.offered n.reserved rule) v
      (table-not-reserved x.table v (start-keeps x accepted) e))
