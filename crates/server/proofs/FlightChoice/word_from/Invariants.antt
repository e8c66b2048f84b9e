-- `word_from`: the pairs are those to come and those passed, and the word is that of those passed.
use Prim.Native.Nat.{ℕ}
use mathlib.Core.List.{List, ◌++◌}
use mathlib.Core.Path.{◌≡◌}
use Rattle.versions.specs.Words.{word_from}
use Rattle.server.proofs.FlightChoice.word_from.Given as goal

abbrev pub invariant-loop-pair : goal.invariant-loop-pair
invariant-loop-pair l = (passed : List (List ℕ)) × (l.self.pairs.now ≡ l.pair-iterator.iter.rest.now ++ passed) ×
    (l.word ≡ word_from l.self.accepted.now passed l.chosen)
