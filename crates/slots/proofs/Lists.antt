-- What the proofs ask of lists on the wire.
use lib.Seq.{get_or-drop}
use Rattle.lists.proofs.Entries.{length-entries, drop-entries}
use Rattle.versions.proofs.Lists.{part-rest}

pub ruleset list_rules = (length-entries, drop-entries, part-rest, get_or-drop)
