-- `put_own` meets its contract: at each exit the tests on the way say whether the record could be an attempt's.
use Prim.Native.Nat.{ℕ, ◌≤◌, ◌<◌}
use mathlib.Core.Bool.{true, false}
use mathlib.Core.List.{List}
use Rattle.std.specs.Prelude.{Some, None}
use mathlib.Core.Path.{◌≡◌, refl, sym, ap, ◌∙◌}
use native.Mathlib.Omega.{arith}
use borrow.Author.Rules.{rules}
use lib.ListN.{length, take, get_or, length-take}
use lib.Seq.{take_all}
use Rattle.versions.specs.Limits.{max_table}
use Rattle.versions.proofs.Searched.{place-there, place-none}
use Rattle.attempt.specs.Attempt.{over, table_of}
use Rattle.versions.specs.Words.{members}
use Rattle.attempt.specs.Step.{counts_fit}
use Rattle.client_verdict.proofs.Judged.{counts-table}
use Rattle.c_record.specs.Records.{marks_fit, is_record, attempt_of, own_record, own_count}
use Rattle.c_record.specs.declared.Record.{Record}
use Rattle.c_record.proofs.OwnRecords.{place, no-marks, no-counts, no_place, a-place, no_own, own_at}
use Rattle.c_record.proofs.attempts.put_own.Goals.{After-place_of, In_ok-place, In_err-place, Else-not-counts_fit, Else-not-marks_fit}
use Rattle.c_record.proofs.attempts.put_own.Goals.{then-not-marks_fit-via-then-not-marks_fit, then-not-marks_fit-via-else-not-marks_fit+then-not-counts_fit}
use Rattle.c_record.proofs.attempts.put_own.Goals as goal

-- What is handed back for a record that could not be an attempt's
nothing : (r : Record) (found : List ℕ) → is_record r ≡ false → (None ≡ own_count r) × (found ≡ over (own_record r) found)
nothing r found h = rw (h, no_own r h) (refl, refl)

-- The members by the word at the attempted version's place are the own list
own-members : (r : Record) (at : ℕ) → at ≡ place r → is_record r ≡ true → place r < length (table_of (attempt_of r)) →
    r.table_len ≤ max_table →
    members (get_or r.rows at 0) (take max_table (take r.table_len r.table)) ≡ own_record r
unfolding attempt_of
own-members r at e h p few =
    let table = take r.table_len r.table in
    let all = length-take r.table_len r.table in
    rw (take_all max_table table (omega arith), e) (sym (own_at r h p))

-- The count of one that could be
counted-of : (r : Record) → is_record r ≡ true → Some (length (own_record r)) ≡ own_count r
unfolding own_record
counted-of r h = rw h

-- What is known past each test
marks : (c : Else-not-marks_fit) → marks_fit c.args.held ≡ true
marks c = sym c.marks_fit.ensures ∙ c.if-not-marks_fit.false

counts : (c : Else-not-counts_fit) → counts_fit (attempt_of c.args.held) ≡ true
counts c = sym c.counts_fit.ensures ∙ c.if-not-counts_fit.false

-- the count is within the array
few : (c : Else-not-counts_fit) → c.args.held.table_len ≤ max_table
unfolding attempt_of
few c = counts-table (attempt_of c.args.held) (counts c)

table_fits : (c : Else-not-counts_fit) → c.args.held.table_len ≤ length c.args.held.table
table_fits c =
    let wide : length c.args.held.table ≡ max_table = search rules in
    let l = few c in
    omega arith

-- how many entries the table has, and the attempted version's first place among them
entries : (c : After-place_of) → length (table_of (attempt_of c.args.held)) ≡ c.args.held.table_len
unfolding attempt_of
entries c =
    let l = table_fits (goal.at.After-place_of c).Else-not-counts_fit in
    let all = length-take c.args.held.table_len c.args.held.table in
    omega arith

found : (c : In_ok-place) → (place c.args.held ≡ c.in_ok-place.place) × (c.in_ok-place.place < length (table_of (attempt_of c.args.held)))
unfolding attempt_of
found c = place-there _ (table_of (attempt_of c.args.held)) _ (sym c.in_ok-place.was ∙ c.place_of.ensures)

none : (c : In_err-place) → length (table_of (attempt_of c.args.held)) ≤ place c.args.held
unfolding attempt_of
none c = place-none _ (table_of (attempt_of c.args.held)) (sym c.in_err-place.was ∙ c.place_of.ensures)

pub returns-then-not-marks_fit : goal.returns-then-not-marks_fit
returns-then-not-marks_fit c = let r = c.args.held in
    let none : is_record r ≡ false =
    elim c.then-not-marks_fit.branch [
      | then-not-marks_fit-via-then-not-marks_fit w ↦ no-marks r (sym c.marks_fit.ensures ∙ w.if-not-marks_fit.true)
      | then-not-marks_fit-via-else-not-marks_fit+then-not-counts_fit w ↦
          no-counts r (sym c.marks_fit.ensures ∙ w.if-not-marks_fit.false) (sym w.counts_fit.ensures ∙ w.if-not-counts_fit.true)
    ] in
    let all = nothing r _ none in
    record { answer = all.0; left = all.1 }

pub slice_bounds-table-end : goal.slice_bounds-table-end
slice_bounds-table-end c = table_fits (goal.at.slice_bounds-table-end c).Else-not-counts_fit

pub slice_bounds-place_of-end : goal.slice_bounds-place_of-end
slice_bounds-place_of-end c = let l = table_fits (goal.at.slice_bounds-place_of-end c).Else-not-counts_fit in simp length-take (omega arith)

pub returns-in_err-place : goal.returns-in_err-place
returns-in_err-place c =
    let at = goal.at.returns-in_err-place c in
    let no = no_place c.args.held (marks at.Else-not-marks_fit) (counts at.Else-not-counts_fit) (none at.In_err-place) in
    let all = nothing c.args.held _ no in
    record { answer = c.from_residual.ensures ∙ all.0; left = all.1 }

pub slice_bounds-table-end-2 : goal.slice_bounds-table-end-2
slice_bounds-table-end-2 c = table_fits (goal.at.slice_bounds-table-end-2 c).Else-not-counts_fit

pub slice_bounds-put_members-end : goal.slice_bounds-put_members-end
slice_bounds-put_members-end c = let l = table_fits (goal.at.slice_bounds-put_members-end c).Else-not-counts_fit in
    simp length-take (omega arith)

pub bounds-rows-place : goal.bounds-rows-place
bounds-rows-place c =
    let at = goal.at.bounds-rows-place c in
    let inside = (found at.In_ok-place).1 in
    omega (arith, inside, entries at.After-place_of, few at.Else-not-counts_fit)

pub returns : goal.returns
returns c = let r = c.args.held in
    let at = goal.at.returns c in
    let place_is = found at.In_ok-place in
    let here : place r < length (table_of (attempt_of r)) = rw place_is.0 place_is.1 in
    let h = a-place r (marks at.Else-not-marks_fit) (counts at.Else-not-counts_fit) here in
    let own = own-members r c.in_ok-place.place (sym place_is.0) h here (few at.Else-not-counts_fit) in
    let put = c.put_members-count.ensures in
    let found = c.args.versions.now in
    record {
      answer = ap Some (put.counted ∙ ap length own) ∙ counted-of r h;
      left = put.left ∙ ap (λ (l : List ℕ). over l found) own;
    }
