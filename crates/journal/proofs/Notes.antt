-- Noting one more answer makes the journal of the longer list of answers.
use Prim.Native.Nat.{ℕ, zero, suc, ◌+◌, ◌-◌, ◌<◌, ◌≤◌, min}
use mathlib.Core.Bool.{Bool, true, false, cond}
use mathlib.Core.List.{List, [], ◌∷◌, ◌++◌, append-nil}
use mathlib.Core.Path.{◌≡◌, refl, sym, ap, ap₂, ◌∙◌, subst}
use native.Mathlib.Nat.{le_of_eq}
use native.Mathlib.Omega.{arith}
use lib.Dec.{eqb, ltb, lit<}
use lib.ListN.{length, drop, get_or, set, replicate, length-append, length-drop, length-replicate, drop_of_length-le}
use lib.Seq.{drop-drop, drop-append-le, drop-cons}
use borrow.Author.Tests.{ltb-true, ltb-false, lt-ltb, le-ltb, eq-eqb, ne_eqb}
use Rattle.journal.specs.Journals.{places, max_events, last_answers, in_places, journal_of, note_of}
use Rattle.journal.specs.declared.Journal.{Journal}
use Rattle.journal.proofs.Places.{one_more}

-- A journal is its answers and its count
abbrev pub journal : List ℕ → ℕ → Journal
journal answers count = record { answers = answers; count = count }

-- An answer at one place of a list, written place by place from the i-th on
abbrev pub put_from : ℕ → List ℕ → ℕ → ℕ → List ℕ
put_from i [] k a = []
put_from i (x ∷ xs) k a = cond (eqb k i) a x ∷ put_from (suc i) xs k a

put-past : (i : ℕ) (l : List ℕ) (k a : ℕ) → k < i → put_from i l k a ≡ l
put-past i [] k a h = refl
put-past i (x ∷ xs) k a h =
    let other : eqb k i ≡ false = ne_eqb k i (λ e. omega (arith, h, e)) in
    rw (other, put-past (suc i) xs k a (omega (arith, h)))

put-from : (i : ℕ) (l : List ℕ) (k j a : ℕ) → j ≡ k + i → put_from i l j a ≡ set l k a
put-from i [] k j a h = refl
put-from i (x ∷ xs) zero j a h =
    let here : eqb j i ≡ true = eq-eqb j i (omega (arith, h)) in
    rw (here, put-past (suc i) xs j a (omega (arith, h)))
put-from i (x ∷ xs) (suc k) j a h =
    let other : eqb j i ≡ false = ne_eqb j i (λ e. omega (arith, h, e)) in
    rw (other, put-from (suc i) xs k j a (omega (arith, h)))

-- The eight places of an array, as the code reads them; of a full array they are the array
abbrev pub each_place : List ℕ → List ℕ
each_place l =
    get_or l 0 0 ∷ get_or l 1 0 ∷ get_or l 2 0 ∷ get_or l 3 0 ∷ get_or l 4 0 ∷ get_or l 5 0 ∷ get_or l 6 0 ∷ get_or l 7 0 ∷ []

pub all-places : (l : List ℕ) → length l ≡ places → each_place l ≡ l
all-places l h =
    let at : (j : ℕ) → j < places → drop j l ≡ get_or l j 0 ∷ drop (suc j) l =
    λ j k. drop-cons l j 0 (subst (λ (n : ℕ). j < n) (sym h) k) in
    sym
    (at 0 (lit< tt) ∙
    rw (
      at 1 (lit< tt),
      at 2 (lit< tt),
      at 3 (lit< tt),
      at 4 (lit< tt),
      at 5 (lit< tt),
      at 6 (lit< tt),
      at 7 (lit< tt),
      drop_of_length-le l {i = places} (le_of_eq h),
    )
    refl)

-- An answer at a place of a full array
pub placed : (l : List ℕ) (k a : ℕ) → length l ≡ places → put_from 0 (each_place l) k a ≡ set l k a
placed l k a h = ap (λ (m : List ℕ). put_from 0 m k a) (all-places l h) ∙ put-from 0 l k k a (omega arith)

-- One more answer in the first unused place
push : (xs : List ℕ) (a : ℕ) → length xs < places → set (in_places xs) (length xs) a ≡ in_places (xs ++ (a ∷ []))
push xs a h =
    let zeros : List ℕ = replicate places 0 in
    let all : length zeros ≡ places = length-replicate {A = ℕ} places 0 in
    one_more zeros xs a (omega (arith, h, all))

full : (l : List ℕ) → length l ≡ places → in_places l ≡ l
full l h = rw h (append-nil l)

-- The law that makes the noting the paper's
module _ (xs : List ℕ) (a : ℕ) where
  long : length (xs ++ (a ∷ [])) ≡ length xs + 1
  long = length-append xs (a ∷ [])

  counts : min (min (length xs) max_events + 1) max_events ≡ min (length (xs ++ (a ∷ []))) max_events
  counts = omega (arith, long)

  -- a place is unused
  noted-unused : length xs < places → note_of (journal_of xs) a ≡ journal_of (xs ++ (a ∷ []))
  unfolding note_of journal_of last_answers
  noted-unused l =
      let m : min (length xs) max_events ≡ length xs = omega (arith, l) in
      let t : ltb (length xs) places ≡ true = lt-ltb (length xs) places l in
      let z : length xs - places ≡ 0 = omega (arith, l) in
      let y : length (xs ++ (a ∷ [])) - places ≡ 0 = omega (arith, l, long) in
      ap₂ journal (rw (m, t, z, y) (push xs a l)) counts

  -- all places are used
  noted-full : places ≤ length xs → note_of (journal_of xs) a ≡ journal_of (xs ++ (a ∷ []))
  unfolding note_of journal_of last_answers
  noted-full g =
      let m : ltb (min (length xs) max_events) places ≡ false =
      le-ltb (min (length xs) max_events) places (omega (arith, g)) in
      let y : length (xs ++ (a ∷ [])) - places ≡ length xs - places + 1 = omega (arith, g, long) in
      let e : length (drop (length xs - places) xs) ≡ places =
      length-drop (length xs - places) xs ∙ omega (arith, g) in
      let f : length (drop (length xs - places + 1) (xs ++ (a ∷ []))) ≡ places =
      length-drop (length xs - places + 1) (xs ++ (a ∷ [])) ∙ omega (arith, g, long) in
      let d : drop 1 (drop (length xs - places) xs) ++ (a ∷ []) ≡ drop (length xs - places + 1) (xs ++ (a ∷ [])) =
      ap (λ (l : List ℕ). l ++ (a ∷ [])) (drop-drop 1 (length xs - places) xs) ∙
      sym (drop-append-le (length xs - places + 1) xs (a ∷ []) (omega (arith, g))) in
      let k : (note_of (journal_of xs) a).answers ≡ (journal_of (xs ++ (a ∷ []))).answers =
      rw (
        m,
        y,
        full (drop (length xs - places) xs) e,
        full (drop (length xs - places + 1) (xs ++ (a ∷ []))) f,
      )
      d in
      ap₂ journal k counts

pub noted : (xs : List ℕ) (a : ℕ) → note_of (journal_of xs) a ≡ journal_of (xs ++ (a ∷ []))
noted xs a = go (ltb (length xs) places) refl where
  go : (b : Bool) → ltb (length xs) places ≡ b → note_of (journal_of xs) a ≡ journal_of (xs ++ (a ∷ []))
  go true h = noted-unused xs a (ltb-true (length xs) places h)
  go false h = noted-full xs a (ltb-false (length xs) places h)
