-- `with_information`: what was read is judged.
use mathlib.Core.Path.{ap, ◌∙◌}
use Rattle.information.specs.declared.Sender.TheVariants.{Client}
use Rattle.information.proofs.Readings.{read_known}
use Rattle.refusals.specs.Reply.{Reply.answered}
use Rattle.server.proofs.Flights.{given-same}
use Rattle.server.proofs.FlightChoice.with_information.Goals as goal

pub returns : goal.returns
returns c =
    let g = c.args.self.now in
    ap answered c.first_accepted.ensures ∙
    given-same g.accepted.now g.pairs.now g.barred.now c.args.version c.args.information.now _ _
    (read_known Client c.args.information.now _ _ c.in_ok-read.ensures) c.if-read-version.false
