-- A word for the contract of `judge` in src/lib.rt, which is private.
use Rattle.std.specs.Prelude.{ℕ, List, Result, Ok, Err}
use Rattle.refusals.specs.Reply.{Reply, Reply.answered, refuse}
use Rattle.refusals.specs.declared.Call.TheVariants.{Reading}
use Rattle.refusals.specs.declared.Refusal.{Refusal}
use Rattle.versions.specs.declared.table.Table.{Table}

-- A table or its refusal, as a reply
abbrev pub table_reply : Result Table Refusal → Reply (List ℕ)
table_reply (Ok t) = answered t.versions.now
table_reply (Err r) = refuse Reading r.0
