-- `start_record` meets its contract: what `start` hands back, as a record.
use mathlib.Core.Path.{ap}
use Rattle.attempt.specs.Start.{Start}
use Rattle.c_record.proofs.Records.{start-counts}
use Rattle.c_record.proofs.attempts.start_record.Goals as goal

pub invariant_of-from : goal.invariant_of-from
invariant_of-from c = record { fits = rw (ap (λ (s : Start). s.attempt) c.in-Ok.ensures.shown) (start-counts _) }
