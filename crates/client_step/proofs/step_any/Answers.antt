-- `step_any` meets its contract: the verdict, applied and noted.
use mathlib.Core.Path.{ap, ◌∙◌}
use Rattle.attempt.specs.Journaled.{journaled_any}
use Rattle.attempt.specs.Event.{event_in, bytes_in}
use Rattle.attempt.proofs.Journaled.{any-journaled}
use Rattle.client_step.proofs.step_any.Goals as goal

pub returns : goal.returns
returns c = let g = c.args in
    c.apply.ensures ∙ ap journaled_any c.judge-verdict.ensures ∙ any-journaled g.attempt (event_in g.event) (bytes_in g.event)
