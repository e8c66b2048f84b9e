-- `step` meets its contract: a reachable record could be an attempt's, and a step keeps it reachable.
use mathlib.Core.Path.{sym, ◌∙◌}
use Rattle.attempt.specs.Event.{event_in, bytes_in}
use Rattle.attempt.proofs.Journaled.{any-accepted-journaled}
use Rattle.attempt.proofs.Keeps.{reachable-passes}
use Rattle.attempt.proofs.Reaching.{reachable-shown}
use Rattle.client_step.proofs.step.Goals as goal

pub returns : goal.returns
returns c = let g = c.args in
    let shown-is =
    c.step_any.ensures ∙
    sym (any-accepted-journaled g.attempt (event_in g.event) (bytes_in g.event) (reachable-passes {a = g.attempt} c.requires)) in record {
      shown = shown-is;
      reachable = reachable-shown g.attempt _ _ c.step_any.result c.requires shown-is;
    }
