-- What the two searches of identifiers hold at each place of the walk.
use Prim.Native.Nat.{ℕ, zero, suc, ◌+◌, ◌*◌, ◌<◌, ◌≤◌}
use mathlib.Core.Bool.{Bool, true, false, cond, ◌||◌, or-true, or-false, false≢true}
use mathlib.Core.List.{List, [], ◌∷◌, ◌++◌, append-nil, append_assoc}
use mathlib.Core.Path.{◌≡◌, refl, sym, ap, ◌∙◌}
use native.Mathlib.Numerals.{add-one}
use native.Mathlib.Omega.{arith}
use borrow.Author.Tests.{eqb-false, eqb-true, le-ltb, lt-ltb, ltb-false, ltb-true, ne_eqb}
use lib.Dec.{eqb, ltb}
use native.Mathlib.Decide.{dec_lt}
use Rattle.parameters.proofs.Items.{at_end, items_none}
use lib.ListN.{get_or, get_or-replicate, length, length-append, length-replicate, length-set, replicate, set, take}
use lib.Seq.{get_or-set_other, get_or-set_same, take-suc-set}
use Rattle.refusals.specs.Reply.{Reply, Reply.refused, Reply.answered}
use Rattle.integers.specs.Integers.{held_below, width_of}
use Rattle.parameters.proofs.Bytes.{Sized, field-sized}
use Rattle.parameters.proofs.Walk.{Inside, field-inside}
use Rattle.versions.specs.Table.{elem}
use Rattle.versions.proofs.Lists.{elem-append}
use Rattle.parameters.specs.Limits.{max_sequence}
use Rattle.parameters.specs.Items.{first_of, items_from, items_left}
use Rattle.parameters.specs.Sequence.{Field, field_at, ids_of, repeats}
use Rattle.parameters_reader.specs.Sizes.{below, from_on, is_seen, large, max_large, seeing}
use Rattle.parameters_reader.proofs.Passing.{ids-append}
use Rattle.parameters_reader.proofs.Twice.{below-append, below-large, below-small, elem_below, from-append, repeats-front, repeats-snoc}

-- The identifiers passed and one more
ids-snoc : (passed : List Field) (f : Field) → ids_of (passed ++ (f ∷ [])) ≡ ids_of passed ++ (f.id ∷ [])
unfolding ids_of
ids-snoc passed f = ids-append passed (f ∷ [])

-- The small identifiers: each that is passed is marked, and none occurs twice
pub record Marking (items rest : List Field) (seen : List Bool) : Type 0 where
  pub passed : List Field
  pub whole : passed ++ rest ≡ items
  pub room : length seen ≡ large
  pub marks : (v : ℕ) → v < large → get_or seen v false ≡ elem v (ids_of passed)
  pub none : repeats (below large (ids_of passed)) ≡ false

pub marking-starts : (items : List Field) (seen : List Bool) → seen ≡ replicate large false → Marking items items seen
unfolding elem ids_of below repeats
marking-starts items seen e = record {
  passed = [];
  whole = refl;
  room = ap length e ∙ length-replicate large false;
  marks = λ v h. ap (λ (l : List Bool). get_or l v false) e ∙ get_or-replicate large v false false h;
  none = refl;
}

-- A number that is passed
elem-snoc : (v : ℕ) (xs : List ℕ) (x : ℕ) → elem v (xs ++ (x ∷ [])) ≡ (elem v xs || eqb x v)
unfolding elem
elem-snoc v xs x = elem-append v xs (x ∷ []) ∙ ap (λ (b : Bool). elem v xs || b) (or-false (eqb x v))

module _ (items : List Field) (f : Field) (rest : List Field) (seen : List Bool) (m : Marking items (f ∷ rest) seen) where
  going_on : (m.passed ++ (f ∷ [])) ++ rest ≡ items
  going_on = append_assoc m.passed (f ∷ []) rest ∙ m.whole

  -- A small one that was not marked is marked
  mark-small : f.id < large → get_or seen f.id false ≡ false → Marking items rest (set seen f.id true)
  unfolding below
  mark-small small new = record {
    passed = m.passed ++ (f ∷ []);
    whole = going_on;
    room = length-set seen f.id true ∙ m.room;
    marks = marked;
    none =
        ap (λ (l : List ℕ). repeats (below large l)) (ids-snoc m.passed f)
        ∙ ap repeats (below-append large (ids_of m.passed) (f.id ∷ []))
        ∙ ap (λ (l : List ℕ). repeats (below large (ids_of m.passed) ++ l)) (below-small large f.id [] small)
        ∙ repeats-snoc (below large (ids_of m.passed)) f.id
        ∙ rw (m.none, elem_below large f.id (ids_of m.passed) small, ← m.marks f.id small) new;
  }
    where
      place : f.id < length seen
      place = omega (arith, small, m.room)

      whole : (v : ℕ) → elem v (ids_of (m.passed ++ (f ∷ []))) ≡ (elem v (ids_of m.passed) || eqb f.id v)
      whole v = ap (elem v) (ids-snoc m.passed f) ∙ elem-snoc v (ids_of m.passed) f.id

      by-equality : (v : ℕ) → v < large → (b : Bool) → eqb f.id v ≡ b
          → get_or (set seen f.id true) v false ≡ (elem v (ids_of m.passed) || b)
      by-equality v l true e =
          let same : f.id ≡ v = eqb-true f.id v e in
          ap (λ (k : ℕ). get_or (set seen f.id true) k false) (sym same) ∙ get_or-set_same seen f.id true false place
          ∙ sym (or-true (elem v (ids_of m.passed)))
      by-equality v l false e =
          get_or-set_other seen f.id v true false (λ z. eqb-false f.id v e (sym z)) ∙ m.marks v l
          ∙ sym (or-false (elem v (ids_of m.passed)))

      marked : (v : ℕ) → v < large → get_or (set seen f.id true) v false ≡ elem v (ids_of (m.passed ++ (f ∷ [])))
      marked v l = by-equality v l (eqb f.id v) refl ∙ sym (whole v)

  -- A large one changes nothing
  mark-large : large ≤ f.id → Marking items rest seen
  unfolding below
  mark-large h = record {
    passed = m.passed ++ (f ∷ []);
    whole = going_on;
    room = m.room;
    marks = λ v l.
        m.marks v l ∙ sym (or-false (elem v (ids_of m.passed)))
        ∙ ap (λ (b : Bool). elem v (ids_of m.passed) || b) (sym (ne_eqb f.id v (λ z. omega (arith, h, l, z))))
        ∙ sym (elem-snoc v (ids_of m.passed) f.id) ∙ ap (elem v) (sym (ids-snoc m.passed f));
    none =
        ap (λ (l : List ℕ). repeats (below large l)) (ids-snoc m.passed f)
        ∙ ap repeats (below-append large (ids_of m.passed) (f.id ∷ []))
        ∙ ap (λ (l : List ℕ). repeats (below large (ids_of m.passed) ++ l)) (below-large large f.id [] h)
        ∙ ap repeats (append-nil (below large (ids_of m.passed))) ∙ m.none;
  }

  -- One that was not marked before
  pub seen-new : is_seen seen f.id ≡ false → Marking items rest (seeing seen f.id)
  seen-new = by_size (ltb f.id large) (ltb-true f.id large) (ltb-false f.id large)
    where
      by_size : (b : Bool) → (b ≡ true → f.id < large) → (b ≡ false → large ≤ f.id)
          → cond b (get_or seen f.id false) false ≡ false → Marking items rest (cond b (set seen f.id true) seen)
      by_size true k l new = mark-small (k refl) new
      by_size false k l new = mark-large (l refl)

  -- One that was: it occurs twice
  pub seen_twice : is_seen seen f.id ≡ true → repeats (below large (ids_of items)) ≡ true
  unfolding below
  seen_twice = by_size (ltb f.id large) (ltb-true f.id large)
    where
      twice : f.id < large → get_or seen f.id false ≡ true → repeats (below large (ids_of (m.passed ++ (f ∷ [])))) ≡ true
      twice small old =
          ap (λ (l : List ℕ). repeats (below large l)) (ids-snoc m.passed f)
          ∙ ap repeats (below-append large (ids_of m.passed) (f.id ∷ []))
          ∙ ap (λ (l : List ℕ). repeats (below large (ids_of m.passed) ++ l)) (below-small large f.id [] small)
          ∙ repeats-snoc (below large (ids_of m.passed)) f.id
          ∙ rw (elem_below large f.id (ids_of m.passed) small, ← m.marks f.id small, old)
          (or-true (repeats (below large (ids_of m.passed))))

      by_size : (b : Bool) → (b ≡ true → f.id < large) → cond b (get_or seen f.id false) false ≡ true
          → repeats (below large (ids_of items)) ≡ true
      by_size false k old = absurd (false≢true old)
      by_size true k old =
          ap (λ (l : List Field). repeats (below large (ids_of l))) (sym going_on)
          ∙ ap (λ (l : List ℕ). repeats (below large l)) (ids-append (m.passed ++ (f ∷ [])) rest)
          ∙ ap repeats (below-append large (ids_of (m.passed ++ (f ∷ []))) (ids_of rest))
          ∙ repeats-front (below large (ids_of (m.passed ++ (f ∷ [])))) (below large (ids_of rest)) (twice (k refl) old)

-- All that are passed have no mark twice
pub marked-all : {items : List Field} {seen : List Bool} → Marking items [] seen → repeats (below large (ids_of items)) ≡ false
marked-all m = ap (λ (l : List Field). repeats (below large (ids_of l))) (sym m.whole ∙ append-nil m.passed) ∙ m.none

-- The large identifiers: those that are passed stand at the front of the numbers
pub record Gathering (items rest : List Field) (numbers : List ℕ) (count : ℕ) : Type 0 where
  pub passed : List Field
  pub whole : passed ++ rest ≡ items
  pub room : length numbers ≡ max_large
  pub counts : count ≡ length (from_on large (ids_of passed))
  pub holds : take count numbers ≡ from_on large (ids_of passed)

pub gathering-starts : (items : List Field) (numbers : List ℕ) → length numbers ≡ max_large → Gathering items items numbers 0
unfolding ids_of from_on
gathering-starts items numbers room = record {
  passed = [];
  whole = refl;
  room = room;
  counts = refl;
  holds = refl;
}

module _ (items : List Field) (f : Field) (rest : List Field) (numbers : List ℕ) (count : ℕ) (g : Gathering items (f ∷ rest) numbers count) where
  gone-on : (g.passed ++ (f ∷ [])) ++ rest ≡ items
  gone-on = append_assoc g.passed (f ∷ []) rest ∙ g.whole

  ids-on : from_on large (ids_of (g.passed ++ (f ∷ []))) ≡ from_on large (ids_of g.passed) ++ from_on large (f.id ∷ [])
  ids-on = ap (from_on large) (ids-snoc g.passed f) ∙ from-append large (ids_of g.passed) (f.id ∷ [])

  one_more : large ≤ f.id → from_on large (ids_of (g.passed ++ (f ∷ []))) ≡ from_on large (ids_of g.passed) ++ (f.id ∷ [])
  unfolding from_on
  one_more size = ids-on ∙ rw (le-ltb f.id large size)

  -- There is a place for a large one, where the numbers have room for all
  pub gather-place : large ≤ f.id → length (from_on large (ids_of items)) ≤ max_large → count < length numbers
  gather-place size fit =
      let parts = ap (λ (l : List Field). length (from_on large (ids_of l))) (sym gone-on)
      ∙ ap (λ (l : List ℕ). length (from_on large l)) (ids-append (g.passed ++ (f ∷ [])) rest)
      ∙ ap length (from-append large (ids_of (g.passed ++ (f ∷ []))) (ids_of rest))
      ∙ length-append (from_on large (ids_of (g.passed ++ (f ∷ [])))) (from_on large (ids_of rest)) in
      let one = ap length (one_more size) ∙ length-append (from_on large (ids_of g.passed)) (f.id ∷ []) in
      omega (arith, parts, one, g.counts, g.room, fit)

  -- and it is put behind the others
  pub gather-large : large ≤ f.id → length (from_on large (ids_of items)) ≤ max_large → Gathering items rest (set numbers count f.id) (count + 1)
  gather-large size fit = record {
    passed = g.passed ++ (f ∷ []);
    whole = gone-on;
    room = length-set numbers count f.id ∙ g.room;
    counts = ap (λ (k : ℕ). k + 1) g.counts ∙ sym (length-append (from_on large (ids_of g.passed)) (f.id ∷ [])) ∙ ap length (sym (one_more size));
    holds =
        ap (λ (k : ℕ). take k (set numbers count f.id)) (add-one count) ∙ take-suc-set numbers count f.id (gather-place size fit)
        ∙ ap (λ (l : List ℕ). l ++ (f.id ∷ [])) g.holds ∙ sym (one_more size);
  }

  -- A small one is passed over
  pub gather-small : f.id < large → Gathering items rest numbers count
  unfolding from_on
  gather-small size = record {
    passed = g.passed ++ (f ∷ []);
    whole = gone-on;
    room = g.room;
    counts = g.counts ∙ ap length (sym same);
    holds = g.holds ∙ sym same;
  }
    where
      same : from_on large (ids_of (g.passed ++ (f ∷ []))) ≡ from_on large (ids_of g.passed)
      same = ids-on ∙ rw (lt-ltb f.id large size) (append-nil (from_on large (ids_of g.passed)))

pub gathered-all : {items : List Field} {numbers : List ℕ} {count : ℕ} (g : Gathering items [] numbers count)
    → (count ≡ length (from_on large (ids_of items))) × (take count numbers ≡ from_on large (ids_of items))
gathered-all g =
    let e = sym g.whole ∙ append-nil g.passed in (
      g.counts ∙ ap (λ (l : List Field). length (from_on large (ids_of l))) (sym e),
      g.holds ∙ ap (λ (l : List Field). from_on large (ids_of l)) (sym e),
    )

-- There is room for all the large ones: each takes five bytes
module _ (s : List ℕ) (below : (i : ℕ) → get_or s i 0 < 256) where
  large-from : (t at : ℕ) → at ≤ length s → 5 * length (from_on large (ids_of (items_from t s at))) + at ≤ length s
  unfolding items_from ids_of from_on held_below width_of
  large-from zero at h = omega arith
  large-from (suc t) at h = go (λ end k. large-from t end k) (field_at s at) refl
    where
      go : ((end : ℕ) → end ≤ length s → 5 * length (from_on large (ids_of (items_from t s end))) + end ≤ length s)
          → (r : Reply Field) → field_at s at ≡ r → 5 * length (from_on large (ids_of (first_of (items_from t s) r))) + at ≤ length s
      go after (refused n c) e = omega arith
      go after (answered f) e = by_size f (field-inside s at f e) (field-sized s at f below e) (after f.value.end (field-inside s at f e).ends) (ltb f.id large) (ltb-false f.id large)
        where
          by_size : (f : Field) → Inside s at f → Sized at f → 5 * length (from_on large (ids_of (items_from t s f.value.end))) + f.value.end ≤ length s
              → (b : Bool) → (b ≡ false → large ≤ f.id)
              → 5 * length (cond b (from_on large (ids_of (items_from t s f.value.end))) (f.id ∷ from_on large (ids_of (items_from t s f.value.end)))) + at ≤ length s
          by_size f i z rest true k = omega (arith, i.begins, i.in_order, rest)
          by_size f i z rest false k = let five = z.takes (k refl) in omega (arith, five, i.in_order, rest)

pub large-fit : (s : List ℕ) → ((i : ℕ) → get_or s i 0 < 256) → length s ≤ max_sequence → (at : ℕ)
    → length (from_on large (ids_of (items_left s at))) ≤ max_large
unfolding ids_of from_on
large-fit s below short at = go (dec_lt (length s) at)
  where
    go : Dec (length s < at) → length (from_on large (ids_of (items_left s at))) ≤ max_large
    go (yes past) = rw (items_none s at 81 (sym (at_end s at (omega arith)))) (omega arith)
    go (no inside) = let all = large-from s below (length s) at (omega arith) in omega (arith, all, short)
