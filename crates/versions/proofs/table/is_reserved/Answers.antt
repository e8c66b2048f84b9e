-- `is_reserved` meets its contract: its one comparison is `reserved`, byte by byte.
use Rattle.versions.proofs.Reserved.{reserved-masked}
use Rattle.versions.proofs.table.is_reserved.Goals as goal

pub returns : goal.returns
returns c = reserved-masked c.args.version
