-- `is_taken` meets its contract: whether any other has the number or the place.
use borrow.Author.Rules.{rules}
use borrow.Author.Tests.{tests}
use mathlib.Core.Bool.{◌||◌}
use mathlib.Core.Path.{sym, ◌∙◌}
use lib.Dec.{eqb}
use Rattle.std.proofs.lemmas.Iterator.{YieldsList-from_slice}
use Rattle.std.proofs.lemmas.Iterator.Search.{any_from_yields_List}
use Rattle.attempt.specs.AsSent.{number_in, place_in}
use Rattle.client_information.proofs.Given.{taken_any}
use Rattle.client_information.proofs.is_taken.Goals as goal

pub returns : goal.returns
returns c = let one = c.args.one in
    any_from_yields_List (λ other. eqb (number_in other) (number_in one) || eqb (place_in other) (place_in one)) _ _ _
    c.any.ensures.ran (YieldsList-from_slice c.args.others.now cc) (λ x b q k. search (rules, tests)) ∙
    sym (taken_any one c.args.others.now)
