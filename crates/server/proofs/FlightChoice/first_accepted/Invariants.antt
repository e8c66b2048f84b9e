-- `first_accepted`: the word is that of the rest of the table, and the rest answers for the whole.
use mathlib.Core.Path.{◌≡◌}
use lib.ListN.{drop}
use Rattle.versions.specs.Words.{word_from}
use Rattle.lists.specs.Wire.{entries}
use Rattle.server.specs.FirstFlight.{first_accepted}
use Rattle.server.proofs.FlightChoice.first_accepted.Given as goal

abbrev pub invariant-loop-version : goal.invariant-loop-version
invariant-loop-version l =
    let rest = drop l.version-index l.self.accepted.now in
    (l.word ≡ word_from rest l.self.pairs.now l.chosen) ×
    (first_accepted l.self.accepted.now l.self.pairs.now l.self.barred.now l.chosen (entries l.available) ≡
    first_accepted rest l.self.pairs.now l.self.barred.now l.chosen (entries l.available))
