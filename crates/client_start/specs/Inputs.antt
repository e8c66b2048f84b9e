-- What a start is given, as lists.
use Rattle.std.specs.Prelude.{Result, Ok, Err}
use Rattle.refusals.specs.Reply.{Reply, Reply.answered, refuse}
use Rattle.refusals.specs.declared.Call.TheVariants.{Reading}
use Rattle.refusals.specs.declared.Refusal.{Refusal}
use Rattle.attempt.specs.Start as start
use Rattle.client_start.specs.declared.input.Input.{Input}

abbrev pub given : Input → start.Input
given i = start.input_of i.table.versions.now i.pairs.now i.barred.now i.original i.destination.now i.source.now

-- The same, or its refusal, as a reply
abbrev pub given_reply : Result Input Refusal → Reply start.Input
given_reply (Ok i) = answered (given i)
given_reply (Err r) = refuse Reading r.0
