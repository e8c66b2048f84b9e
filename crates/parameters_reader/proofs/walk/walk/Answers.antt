-- `walk`: parameter by parameter.
use Prim.Native.Nat.{ℕ}
use mathlib.Core.List.{List, []}
use mathlib.Core.Path.{◌≡◌, refl}
use mathlib.Core.Bool.{true, false≢true}
use Rattle.refusals.specs.Reply.{Reply, Reply.refused, Reply.answered, refuse}
use Rattle.refusals.specs.declared.Call.TheVariants.{Reading}
use Rattle.parameters.specs.Reading.{runs_past}
use Rattle.parameters.specs.Sequence.{Field}
use Rattle.parameters_reader.specs.Walking.{Noted, passage_of}
use Rattle.parameters_reader.proofs.Passing.{Passing, passed-all, passed-short, passes, starts}
use Rattle.parameters_reader.proofs.walk.walk.Goals as goal

pub loop-id-init : goal.loop-id-init
loop-id-init c = rw (c.into_iter-id-iterator.ensures.into_iter_gives, c.requires.start) (starts _ _ c.requires.room)

pub loop-id-preserved : goal.loop-id-preserved
loop-id-preserved c = passes _ _ _ _ _ _ _ _ _ c.in-Some.field-0 c.loop-id.invariant c.in-Some.ensures.steps c.note.ensures c.or_here-ours.ensures

-- A field runs past the end
pub record Cut (r : Reply (List Field)) (ids : List ℕ) : Type 0 where
  pub answer : refuse Reading 81 ≡ passage_of r
  pub noted : Noted r ids

cut : (r : Reply (List Field)) (ids : List ℕ) → runs_past r ≡ true → Cut r ids
unfolding Noted
cut (refused n c) ids h = record { answer = refl; noted = tt }
cut (answered fs) ids h = absurd (false≢true h)

pub returns-then-at-end : goal.returns-then-at-end
returns-then-at-end c =
    let p = passed-short (rw c.in-None.ensures.steps.0 at c.loop-id.invariant) c.if-at-end.true in
    let both = cut _ c.loop-id.ids p in
    record { answer = both.answer; noted = both.noted }

pub returns : goal.returns
unfolding Noted
returns c =
    let p : Passing _ _ [] _ _ _ = rw c.in-None.ensures.steps.0 at c.loop-id.invariant in
    let all = passed-all p c.if-at-end.false in
    rw (all, c.carried_at-value.ensures, p.begins.lies, p.counts) (record { answer = refl; noted = p.notes })
