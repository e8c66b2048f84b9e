-- The count of a list on the wire: its whole fours.
use mathlib.Core.Path.{sym}
use Rattle.lists.proofs.Entries.{length-entries}
use Rattle.lists.proofs.OnWireVersions.count.Goals as goal

pub returns : goal.returns
returns c = sym (length-entries _)
