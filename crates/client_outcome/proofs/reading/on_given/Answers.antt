-- `on_given` meets its contract: what the reader refuses ends the attempt, what it reads is judged by 72 to 75.
use Prim.Native.Nat.{◌≤◌}
use mathlib.Core.Path.{sym, ap, ◌∙◌}
use lib.ListN.{length}
use native.Mathlib.Omega.{arith}
use Rattle.information.specs.Information.{information_reply}
use Rattle.information.specs.declared.Sender.TheVariants.{Server}
use Rattle.information.proofs.Readings.{Known, read_known}
use Rattle.client_outcome.proofs.Outcomes.{given-refused, given-read}
use Rattle.client_outcome.proofs.reading.on_given.Goals.{In-Ok}
use Rattle.client_outcome.proofs.reading.on_given.Goals as goal

-- what the reader found
known : (c : In-Ok) → Known Server c.args.information.now c.in-Ok.read.chosen c.in-Ok.read.available
known c =
    read_known Server c.args.information.now _ _
    (sym (ap information_reply c.in-Ok.is) ∙ c.read_information.ensures)

from-to : (c : In-Ok) → c.in-Ok.read.available.start ≤ c.in-Ok.read.available.end
from-to c = let r = known c in rw (r.start_is, r.end_is) r.long-enough

up_to : (c : In-Ok) → c.in-Ok.read.available.end ≤ length c.args.information.now
up_to c = let r = known c in rw r.end_is (omega arith)

pub slice_bounds-result-count : goal.slice_bounds-result-count
slice_bounds-result-count c = from-to (goal.at.slice_bounds-result-count c).In-Ok

pub slice_bounds-result-start : goal.slice_bounds-result-start
slice_bounds-result-start c = from-to (goal.at.slice_bounds-result-start c).In-Ok

pub slice_bounds-result-end : goal.slice_bounds-result-end
slice_bounds-result-end c = up_to (goal.at.slice_bounds-result-end c).In-Ok

pub returns-in-Err : goal.returns-in-Err
returns-in-Err c = let g = c.args in
    given-refused g.attempt g.in_use g.information.now _
    (sym (ap information_reply c.in-Err.is) ∙ c.read_information.ensures)

pub returns-in-Ok : goal.returns-in-Ok
returns-in-Ok c = let g = c.args in
    given-read g.attempt g.in_use g.information.now _ _ (known (goal.at.returns-in-Ok c).In-Ok)
