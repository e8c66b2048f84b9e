-- The close code of a refusal. Document 01: "RFC 9000 gives close code 0x08, RFC 9368 gives 0x11";
-- "A writer's 33 to 36 close nothing; there the code is no part of the answer".
use Rattle.std.specs.Prelude.{ℕ, cond, List, [], ◌∷◌, eqb, Option, None}
use Rattle.refusals.specs.Table.{Row, Row.row, table}
use Rattle.refusals.specs.declared.Call.{Call}
use Rattle.refusals.specs.declared.Call.TheVariants.{Reading, Writing}

-- The code in the row of a number; `None` where there is no such row
unfoldable pub code_in : List Row → ℕ → Option ℕ
code_in [] n = None
code_in (row m c ∷ rs) n = cond (eqb n m) c (code_in rs n)

-- The code by the number and the kind of call
unfoldable pub close_of : ℕ → Call → Option ℕ
close_of n Reading = code_in table n
close_of n Writing = None
