-- What the walk over a sequence holds at each place: how many parameters are passed, their identifiers as far as there is
-- room, and where Version Information lies among them.
use Prim.Native.Nat.{ℕ, suc, ◌+◌, ◌<◌, ◌≤◌, zero-le}
use mathlib.Core.Bool.{Bool, true, false, cond, not, false≢true, true≢false}
use mathlib.Core.List.{List, [], ◌∷◌, ◌++◌, append-nil, append_assoc}
use Rattle.std.specs.Prelude.{Option, None, Some}
use mathlib.Core.Path.{◌≡◌, refl, sym, ap, ◌∙◌, subst}
use native.Mathlib.Nat.{le_refl}
use native.Mathlib.Numerals.{add-one}
use native.Mathlib.Omega.{arith}
use borrow.Author.Tests.{eq-eqb, le-ltb, lt-ltb, ne_eqb}
use lib.Dec.{eqb, ltb}
use lib.ListN.{length, length-append, length-set, set, take}
use lib.Seq.{take-suc-set}
use Rattle.refusals.specs.Reply.{Reply, Reply.refused, Reply.answered}
use Rattle.lists.specs.declared.Span.{Span}
use Rattle.parameters.specs.Limits.{max_parameters, version_information}
use Rattle.parameters.specs.Reading.{carried, fields_in, runs_past}
use Rattle.parameters.specs.Sequence.{Field, field_at, fields_of, ids_of}
use Rattle.parameters.specs.Items.{items_left}
use Rattle.parameters.proofs.Items.{at_end, end_of, end-snoc, items_here, whole}
use Rattle.parameters.proofs.Walk.{field-inside}
use Rattle.parameters_reader.specs.Walking.{carried_there, noted, or_here}

pub ids-append : (xs ys : List Field) → ids_of (xs ++ ys) ≡ ids_of xs ++ ids_of ys
unfolding ids_of
ids-append [] ys = refl
ids-append (f ∷ xs) ys = ap (λ (l : List ℕ). f.id ∷ l) (ids-append xs ys)

pub length_ids : (xs : List Field) → length (ids_of xs) ≡ length xs
unfolding ids_of
length_ids [] = refl
length_ids (f ∷ xs) = rw (length_ids xs)

abbrev is_some : Option Span → Bool
is_some None = false
is_some (Some place) = true

-- One more parameter: Version Information lies where it did, or else there, if that is it
carried-old : (xs : List Field) (f : Field) → is_some (carried xs) ≡ true → carried (xs ++ (f ∷ [])) ≡ carried xs
unfolding carried
carried-old [] f h = absurd (false≢true h)
carried-old (x ∷ xs) f h = go (eqb x.id version_information) (carried-old xs f) h
  where
    go : (b : Bool) → (is_some (carried xs) ≡ true → carried (xs ++ (f ∷ [])) ≡ carried xs)
        → is_some (cond b (Some x.value) (carried xs)) ≡ true
        → cond b (Some x.value) (carried (xs ++ (f ∷ []))) ≡ cond b (Some x.value) (carried xs)
    go true k e = refl
    go false k e = k e

carried-new : (xs : List Field) (f : Field) → is_some (carried xs) ≡ false → carried (xs ++ (f ∷ [])) ≡ carried (f ∷ [])
unfolding carried
carried-new [] f h = refl
carried-new (x ∷ xs) f h = go (eqb x.id version_information) (carried-new xs f) h
  where
    go : (b : Bool) → (is_some (carried xs) ≡ false → carried (xs ++ (f ∷ [])) ≡ carried (f ∷ []))
        → is_some (cond b (Some x.value) (carried xs)) ≡ false
        → cond b (Some x.value) (carried (xs ++ (f ∷ []))) ≡ carried (f ∷ [])
    go true k e = absurd (true≢false e)
    go false k e = k e

carried-ours : (f : Field) → eqb f.id version_information ≡ true → carried (f ∷ []) ≡ Some f.value
unfolding carried
carried-ours f n = rw n

carried_other : (f : Field) → eqb f.id version_information ≡ false → carried (f ∷ []) ≡ None
unfolding carried
carried_other f n = rw n

-- Version Information begins there, if it is among those passed; else the place is the end
pub record Begins (s : List ℕ) (ours : ℕ) (passed : List Field) : Type 0 where
  pub given : is_some (carried passed) ≡ not (eqb ours (length s))
  pub lies : carried_there (field_at s ours) ≡ carried passed

nothing-there : (s : List ℕ) → carried_there (field_at s (length s)) ≡ None
nothing-there s = ap carried_there (at_end s (length s) (le_refl (length s)))

begins-none : (s : List ℕ) → Begins s (length s) []
unfolding carried
begins-none s = record { given = rw (eq-eqb (length s) (length s) refl); lies = nothing-there s }

begins-next : (s : List ℕ) (ours at : ℕ) (passed : List Field) (f : Field) → Begins s ours passed → at < length s
    → field_at s at ≡ answered f → Begins s (or_here ours (length s) f.id at) (passed ++ (f ∷ []))
begins-next s ours at passed f b h e = by_place (eqb ours (length s)) refl
  where
    -- it is here, or still missing
    here-or-not : is_some (carried passed) ≡ false → (new : Bool) → eqb f.id version_information ≡ new
        → Begins s (cond new at (length s)) (passed ++ (f ∷ []))
    here-or-not none_yet true n =
        let now-there : carried (passed ++ (f ∷ [])) ≡ Some f.value = carried-new passed f none_yet ∙ carried-ours f n in
        record {
          given = rw (now-there, ne_eqb at (length s) (λ z. omega (arith, h, z))) refl;
          lies = ap carried_there e ∙ sym now-there;
        }
    here-or-not none_yet false n =
        let still-none : carried (passed ++ (f ∷ [])) ≡ None = carried-new passed f none_yet ∙ carried_other f n in
        record {
          given = rw (still-none, eq-eqb (length s) (length s) refl) refl;
          lies = nothing-there s ∙ sym still-none;
        }

    by_place : (missing : Bool) → eqb ours (length s) ≡ missing
        → Begins s (cond missing (cond (eqb f.id version_information) at (length s)) ours) (passed ++ (f ∷ []))
    by_place true m = here-or-not (b.given ∙ ap not m) (eqb f.id version_information) refl
    by_place false m =
        let same : carried (passed ++ (f ∷ [])) ≡ carried passed = carried-old passed f (b.given ∙ ap not m) in
        record { given = ap is_some same ∙ b.given; lies = b.lies ∙ sym same }

-- Those passed and those that are left are all, and the last one passed ends here
pub record Passing (s ids : List ℕ) (rest : List Field) (at count ours : ℕ) : Type 0 where
  pub passed : List Field
  pub whole : passed ++ rest ≡ items_left s 0
  pub ends : end_of 0 passed ≡ at
  pub left : rest ≡ items_left s at
  pub few : count ≤ at
  pub inside : at ≤ length s
  pub counts : count ≡ length passed
  pub room : length ids ≡ max_parameters
  pub notes : length passed ≤ max_parameters → take (length passed) ids ≡ ids_of passed
  pub begins : Begins s ours passed

pub starts : (s ids : List ℕ) → length ids ≡ max_parameters → Passing s ids (items_left s 0) 0 0 (length s)
unfolding ids_of end_of
starts s ids room = record {
  passed = [];
  whole = refl;
  ends = refl;
  left = refl;
  few = zero-le;
  inside = zero-le;
  counts = refl;
  room = room;
  notes = λ _. refl;
  begins = begins-none s;
}

length-noted : (ids : List ℕ) (place id : ℕ) → length (noted ids place id) ≡ length ids
length-noted ids place id = go (ltb place (length ids))
  where
    go : (b : Bool) → length (cond b (set ids place id) ids) ≡ length ids
    go true = length-set ids place id
    go false = refl

-- A turn
pub passes : (s ids ids' : List ℕ) (rest rest' : List Field) (at count ours ours' : ℕ) (f : Field) (p : Passing s ids rest at count ours)
    → rest ≡ f ∷ rest' → ids' ≡ noted ids count f.id → ours' ≡ or_here ours (length s) f.id at
    → Passing s ids' rest' f.value.end (count + 1) ours'
unfolding ids_of
passes s ids ids' rest rest' at count ours ours' f p next n o =
    let passed = p.passed in
    let here = items_here s at f rest' (sym p.left ∙ next) in
    let i = field-inside s at f here.read in
    let more : length (passed ++ (f ∷ [])) ≡ length passed + 1 = length-append passed (f ∷ []) in
    record {
      passed = passed ++ (f ∷ []);
      whole = append_assoc passed (f ∷ []) rest' ∙ ap (λ (l : List Field). passed ++ l) (sym next) ∙ p.whole;
      ends = end-snoc 0 passed f;
      left = here.behind;
      few = omega (arith, p.few, i.begins, i.in_order);
      inside = i.ends;
      counts = ap (λ (k : ℕ). k + 1) p.counts ∙ sym more;
      room = ap length n ∙ length-noted ids count f.id ∙ p.room;
      notes = λ few.
          let fits : length passed < length ids = omega (arith, few, more, p.room) in
          let before : length passed ≤ max_parameters = omega (arith, few, more) in
          let set_there : ids' ≡ set ids (length passed) f.id =
          n ∙ ap (λ (k : ℕ). noted ids k f.id) p.counts ∙ rw (lt-ltb _ _ fits) in
          ap (λ (k : ℕ). take k ids') (more ∙ add-one (length passed))
          ∙ ap (take (suc (length passed))) set_there ∙ take-suc-set ids (length passed) f.id fits
          ∙ ap (λ (l : List ℕ). l ++ (f.id ∷ [])) (p.notes before) ∙ sym (ids-append passed (f ∷ []));
      begins = subst (λ (k : ℕ). Begins s k (passed ++ (f ∷ []))) (sym o) (begins-next s ours at passed f p.begins (omega (arith, i.begins, i.in_order, i.ends)) here.read);
    }

-- Where the walk is through before the end, a field runs past it
pub passed-short : {s ids : List ℕ} {at count ours : ℕ} → Passing s ids [] at count ours → at < length s → runs_past (fields_of s) ≡ true
passed-short {s} p h =
    let w = whole s in
    let all = sym (append-nil p.passed) ∙ p.whole in
    w.past ∙ rw (← all, p.ends, lt-ltb _ _ h)

-- Else those passed are all fields
pub passed-all : {s ids : List ℕ} {at count ours : ℕ} (p : Passing s ids [] at count ours) → length s ≤ at → fields_of s ≡ answered p.passed
passed-all {s} p h =
    let w = whole s in
    let all = sym (append-nil p.passed) ∙ p.whole in
    read_all (fields_of s) (w.past ∙ rw (← all, p.ends, le-ltb _ _ h)) (λ k. w.fields k ∙ sym all)
  where
    read_all : (r : Reply (List Field)) → runs_past r ≡ false → (runs_past r ≡ false → fields_in r ≡ p.passed) → r ≡ answered p.passed
    read_all (refused n c) k e = absurd (true≢false k)
    read_all (answered fs) k e = ap answered (e k)
