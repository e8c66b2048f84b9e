-- `open`: each array of the record is its list in places.
use borrow.Author.Rules.{rules}
use Rattle.versions.specs.Limits.{max_table}
use Rattle.versions.proofs.Lists.{table-counts}
use Rattle.attempt.specs.Attempt.{padded}
use Rattle.attempt.specs.Start.{opened}
use Rattle.attempt.proofs.Padded.{padded-none}
use Rattle.client_start.specs.Inputs.{given}
use Rattle.client_start.proofs.Accepted.{passed}
use Rattle.client_start.proofs.open.Goals as goal

pub padded-places-requires : goal.padded-places-requires
padded-places-requires c = (search rules, (table-counts c.args.input.table.versions.now c.args.input.table.rule).1)

pub put_rows-requires : goal.put_rows-requires
put_rows-requires c = (padded-none max_table, search rules)

pub returns : goal.returns
unfolding opened padded
returns c = rw (
  c.padded-places.ensures,
  c.put_rows.ensures,
  c.padded-destination_places.ensures,
  c.padded-source_places.ensures,
  c.empty.ensures,
)
