-- `read_outcome`: the information that is given is what is judged.
use Rattle.client_outcome.proofs.reading.read_outcome.Goals as goal

pub returns-in-Some : goal.returns-in-Some
returns-in-Some c = rw c.in-Some.is c.on_given.ensures
