-- `read_parameters`: the tests are the rules in the order of their numbers.
use Prim.Native.Nat.{ℕ, ◌<◌, ◌≤◌}
use mathlib.Core.Path.{◌≡◌, sym, ap, ◌∙◌, subst}
use native.Mathlib.Omega.{arith}
use mathlib.Core.List.{List}
use lib.ListN.{length, take}
use Rattle.std.proofs.lemmas.Result.{err_from_is_err_and}
use Rattle.refusals.specs.Reply.{Reply.answered}
use Rattle.parameters.specs.Limits.{max_parameters, max_sequence}
use Rattle.parameters.specs.Reading.{fields_in}
use Rattle.parameters.specs.Sequence.{fields_of, ids_of, repeats}
use Rattle.refusals.specs.declared.Refusal.{Refusal}
use Rattle.parameters_reader.specs.Walking.{Noted, passage_of}
use Rattle.parameters_reader.proofs.Judging.{Told, all_read, of_many, past_the_end, refused_as, repeated, told-past, told-through, too_long}
use Rattle.parameters_reader.proofs.read_parameters.Goals.{In_ok-walked, After-few_repeat}
use Rattle.parameters_reader.proofs.read_parameters.Goals as goal

pub returns-in_err-parameters : goal.returns-in_err-parameters
returns-in_err-parameters c =
    let told = c.in_err-parameters.ensures in
    let e = err_from_is_err_and c.from_residual.result c.from_residual.ensures.1 in
    refused_as c.from_residual.result e.0 80 e.1 (ap (λ (x : Refusal). x.0) e.2 ∙ told.0) ∙ too_long c.args.sequence.now told.1

pub returns-in_err-walked : goal.returns-in_err-walked
returns-in_err-walked c =
    let s = c.args.sequence.now in
    let same = c.in_ok-parameters.ensures.0 in
    let short : length s ≤ max_sequence = rw same at c.in_ok-parameters.parameters.short in
    let told = told-past (fields_of s) _ (c.in_err-walked.ensures.answer ∙ ap (λ (l : List ℕ). passage_of (fields_of l)) same) in
    let e = err_from_is_err_and c.from_residual-in_err-walked.result c.from_residual-in_err-walked.ensures.1 in
    refused_as c.from_residual-in_err-walked.result e.0 81 e.1 (ap (λ (x : Refusal). x.0) e.2 ∙ told.0) ∙ past_the_end s short told.1

-- What the walk told
told : (c : In_ok-walked) → (length c.args.sequence.now ≤ max_sequence) × Told (fields_of c.args.sequence.now) c.in_ok-walked.walked c.walk.new.ids
told c =
    let same = c.in_ok-parameters.ensures.0 in (
      rw same at c.in_ok-parameters.parameters.short,
      told-through _ _ _ (c.in_ok-walked.ensures.answer ∙ ap (λ (l : List ℕ). passage_of (fields_of l)) same)
          (subst (λ (l : List ℕ). Noted (fields_of l) c.walk.new.ids) same c.in_ok-walked.ensures.noted),
    )

pub returns-then-walked-gt-MAX_PARAMETERS : goal.returns-then-walked-gt-MAX_PARAMETERS
returns-then-walked-gt-MAX_PARAMETERS c =
    let t = told (goal.at.returns-then-walked-gt-MAX_PARAMETERS c).In_ok-walked in
    let many : max_parameters < length (fields_in (fields_of c.args.sequence.now)) = omega (arith, t.1.counts) in
    of_many c.args.sequence.now t.0 t.1.read c.refusal_of_many.result.0 many
    (rw (c.in_ok-parameters.ensures.0, c.in_ok-parameters.ensures.1) at c.refusal_of_many.ensures)

-- Whether an identifier occurs twice, where there are few
few : (c : After-few_repeat) → length (fields_in (fields_of c.args.sequence.now)) ≤ max_parameters
few c = let t = told (goal.at.After-few_repeat c).In_ok-walked in omega (arith, t.1.counts)

twice : (c : After-few_repeat) → repeats (ids_of (fields_in (fields_of c.args.sequence.now))) ≡ c.few_repeat.result
twice c =
    let t = told (goal.at.After-few_repeat c).In_ok-walked in
    ap repeats (sym (t.1.notes (few c)) ∙ ap (λ (n : ℕ). take n c.walk.new.ids) (sym t.1.counts)) ∙ sym c.few_repeat.ensures

pub returns-then-few_repeat : goal.returns-then-few_repeat
returns-then-few_repeat c =
    let t = told (goal.at.returns-then-few_repeat c).In_ok-walked in
    repeated c.args.sequence.now t.0 t.1.read (twice (goal.at.returns-then-few_repeat c).After-few_repeat ∙ c.if-few_repeat.true)

pub returns : goal.returns
returns c =
    let t = told (goal.at.returns c).In_ok-walked in
    let at = (goal.at.returns c).After-few_repeat in
    ap answered t.1.lies ∙ all_read c.args.sequence.now t.0 t.1.read (twice at ∙ c.if-few_repeat.false) (few at)
