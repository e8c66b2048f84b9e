-- The lowest set bit is that of no entry, or it is that of an entry.
use mathlib.Core.Path.{ap, ◌∙◌}
use Rattle.refusals.specs.Reply.{read_reply}
use Rattle.choosing.specs.Choice.{or_nothing_in_common}
use Rattle.choosing.proofs.Chosen.{found_or_nothing, copied-at}
use Rattle.sets.proofs.Lowest.{lowest-member}
use Rattle.sets.proofs.at_lowest.Goals as goal

pub returns : goal.returns
returns c = let args = c.args in
    ap read_reply c.ok_or.ensures.value ∙
    found_or_nothing c.copied-found.result ∙
    ap or_nothing_in_common
    (c.copied-found.ensures ∙
    copied-at args.table.versions.now c.get.result _ c.get.ensures.lookup.0 c.get.ensures.lookup.1 ∙
    lowest-member args.table.versions.now args.word args.table.rule)
