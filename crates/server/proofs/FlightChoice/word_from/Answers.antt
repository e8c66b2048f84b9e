-- `word_from`: from the pairs' end on, the word so far is that of the pairs passed.
use mathlib.Core.List.{List, [], ◌∷◌}
use mathlib.Core.Path.{ap, ◌∙◌}
use native.Mathlib.Omega.{arith}
use Prim.Native.Nat.{ℕ}
use Rattle.std.proofs.lemmas.Grind.{common_steps}
use Rattle.versions.specs.Words.{word_from}
use Rattle.server.proofs.Flights.{from-end, from-hit, from-miss}
use Rattle.server.proofs.FlightChoice.word_from.Goals as goal

pub loop-pair-init : goal.loop-pair-init
loop-pair-init c = let s = c.args.self.now in
    ([], grind (arith, common_steps), c.mark-word.ensures ∙ from-end s.accepted.now s.rule c.args.chosen)

pub loop-pair-preserved-then-pair-chosen : goal.loop-pair-preserved-then-pair-chosen
loop-pair-preserved-then-pair-chosen c = let s = c.args.self.now in
    let i = c.loop-pair.invariant in (
      c.in-Some.pair.now ∷ i.0,
      grind (arith, common_steps),
      c.mark-word-then-pair-chosen.ensures ∙ rw i.2 (from-hit s.accepted.now s.rule c.args.chosen c.in-Some.pair.now i.0 c.if-pair-chosen.true),
    )

pub loop-pair-preserved : goal.loop-pair-preserved
loop-pair-preserved c = let s = c.args.self.now in
    let i = c.loop-pair.invariant in (
      c.in-Some.pair.now ∷ i.0,
      grind (arith, common_steps),
      i.2 ∙ from-miss s.accepted.now s.rule c.args.chosen c.in-Some.pair.now i.0 c.if-pair-chosen.false,
    )

pub returns : goal.returns
returns c = let i = c.loop-pair.invariant in i.2 ∙ ap (λ (ps : List (List ℕ)). word_from c.args.self.now.accepted.now ps c.args.chosen) (grind (arith, common_steps))
