-- The parameters that an iterator gives: the next one and those behind it; and that they are all, where all are read.
use Prim.Native.Nat.{ℕ, zero, suc, ◌+◌, ◌-◌, ◌<◌, ◌≤◌}
use mathlib.Core.Bool.{Bool, true, false, cond, true≢false}
use mathlib.Core.List.{List, [], ◌∷◌, ◌++◌, nil≢cons}
use mathlib.Core.Path.{◌≡◌, refl, sym, ap, ◌∙◌}
use native.Mathlib.Omega.{arith}
use borrow.Author.Tests.{leb-true, leb-false, lt-ltb, le-ltb}
use lib.Dec.{leb, ltb}
use lib.ListN.{length}
use Rattle.std.specs.Prelude.{Option}
use Rattle.refusals.specs.Reply.{Reply, Reply.refused, Reply.answered, refuse}
use Rattle.refusals.specs.declared.Call.TheVariants.{Reading}
use Rattle.parameters.specs.Items.{first_of, items_from, items_left}
use Rattle.parameters.specs.Reading.{fields_in, runs_past}
use Rattle.parameters.specs.Sequence.{Field, field_at, fields_from, fields_of, followed_by, then_from}
use Rattle.parameters.proofs.Places.{nothing_left}
use Rattle.parameters.proofs.Walk.{field-inside}

-- Nothing is read at the end or past it
pub at_end : (s : List ℕ) (at : ℕ) → length s ≤ at → field_at s at ≡ refuse Reading 81
unfolding field_at
at_end s at h = rw (nothing_left s at h)

none_from : (t : ℕ) (s : List ℕ) (at n : ℕ) (c : Option ℕ) → refused n c ≡ field_at s at → items_from t s at ≡ []
unfolding items_from
none_from zero s at n c e = refl
none_from (suc t) s at n c e = rw (← e) refl

end_from : (t : ℕ) (s : List ℕ) (at : ℕ) → length s ≤ at → items_from t s at ≡ []
end_from t s at h = none_from t s at _ _ (sym (at_end s at h))

-- One turn for each byte that is left is enough: more of them change nothing
pub enough_items : (s : List ℕ) (t u at : ℕ) → length s - at ≤ t → length s - at ≤ u → items_from t s at ≡ items_from u s at
unfolding items_from
enough_items s zero u at h k = sym (end_from u s at (omega arith))
enough_items s (suc t) zero at h k = end_from (suc t) s at (omega arith)
enough_items s (suc t) (suc u) at h k = go (λ end. enough_items s t u end) (field_at s at) refl
  where
    go : ((end : ℕ) → length s - end ≤ t → length s - end ≤ u → items_from t s end ≡ items_from u s end)
        → (r : Reply Field) → field_at s at ≡ r → first_of (items_from t s) r ≡ first_of (items_from u s) r
    go same (refused n c) e = refl
    go same (answered f) e =
        let i = field-inside s at f e in
        let past : at + 2 ≤ f.value.end = omega (arith, i.begins, i.in_order) in
        ap (λ (l : List Field). f ∷ l) (same f.value.end (omega (arith, h, past, i.ends)) (omega (arith, k, past, i.ends)))

-- Where none can be read, none is left
pub items_none : (s : List ℕ) (at n : ℕ) → refuse Reading n ≡ field_at s at → items_left s at ≡ []
items_none s at n e = none_from (length s) s at n _ e

-- Else it is the first, and those behind it follow
pub items_some : (s : List ℕ) (at : ℕ) (f : Field) → answered f ≡ field_at s at → items_left s at ≡ f ∷ items_left s f.value.end
unfolding items_from
items_some s at f e =
    let i = field-inside s at f (sym e) in
    let one : length s ≡ suc (length s - 1) = omega (arith, i.begins, i.in_order, i.ends) in
    ap (λ (t : ℕ). items_from t s at) one ∙ rw (← e)
    (ap (λ (l : List Field). f ∷ l) (enough_items s (length s - 1) (length s) f.value.end (omega (arith, i.begins, i.in_order, i.ends)) (omega arith)))

pub ruleset items = (items_none, items_some)

-- Where the last of them ends
unfoldable pub end_of : ℕ → List Field → ℕ
end_of at [] = at
end_of at (f ∷ fs) = end_of f.value.end fs

-- They are all fields where the last of them ends with the sequence; else a field runs past the end
pub record Whole (s : List ℕ) (r : Reply (List Field)) (items : List Field) (end : ℕ) : Type 0 where
  pub past : runs_past r ≡ ltb end (length s)
  pub fields : runs_past r ≡ false → fields_in r ≡ items

whole_none : (s : List ℕ) (end : ℕ) → length s ≤ end → Whole s (answered []) [] end
whole_none s end h = record { past = sym (le-ltb end (length s) h); fields = λ _. refl }

whole_more : (s : List ℕ) (f : Field) (r : Reply (List Field)) (items : List Field) (end : ℕ) → Whole s r items end
    → Whole s (followed_by f r) (f ∷ items) end
whole_more s f (refused n c) items end w = record { past = w.past; fields = λ h. absurd (true≢false h) }
whole_more s f (answered fs) items end w = record { past = w.past; fields = λ h. ap (λ (l : List Field). f ∷ l) (w.fields h) }

whole_from : (t : ℕ) (s : List ℕ) (at : ℕ) → length s ≤ at + t → Whole s (fields_from t s at) (items_from t s at) (end_of at (items_from t s at))
unfolding fields_from items_from end_of
whole_from zero s at h = whole_none s at (omega arith)
whole_from (suc t) s at h = by_place (leb (length s) at) (leb-true _ _) (leb-false _ _) (λ end k. whole_from t s end k)
  where
    After : Type 0
    After = (end : ℕ) → length s ≤ end + t → Whole s (fields_from t s end) (items_from t s end) (end_of end (items_from t s end))

    by_field : After → at < length s → (r : Reply Field) → field_at s at ≡ r
        → Whole s (then_from (fields_from t s) r) (first_of (items_from t s) r) (end_of at (first_of (items_from t s) r))
    by_field after l (refused n c) e = record { past = sym (lt-ltb at (length s) l); fields = λ h. absurd (true≢false h) }
    by_field after l (answered f) e =
        let i = field-inside s at f e in
        whole_more s f _ _ _ (after f.value.end (omega (arith, i.begins, i.in_order)))

    by_place : (b : Bool) → (b ≡ true → length s ≤ at) → (b ≡ false → at < length s) → After
        → Whole s (cond b (answered []) (then_from (fields_from t s) (field_at s at))) (first_of (items_from t s) (field_at s at))
        (end_of at (first_of (items_from t s) (field_at s at)))
    by_place true k l after = rw (at_end s at (k refl)) (whole_none s at (k refl))
    by_place false k l after = by_field after (l refl) (field_at s at) refl

pub whole : (s : List ℕ) → Whole s (fields_of s) (items_left s 0) (end_of 0 (items_left s 0))
unfolding fields_of
whole s = whole_from (length s) s 0 (omega arith)

-- Where all fields are read, they are all
pub items_all : (s : List ℕ) → runs_past (fields_of s) ≡ false → items_left s 0 ≡ fields_in (fields_of s)
items_all s read = sym ((whole s).fields read)

pub end-snoc : (at : ℕ) (fs : List Field) (f : Field) → end_of at (fs ++ (f ∷ [])) ≡ f.value.end
unfolding end_of
end-snoc at [] f = refl
end-snoc at (g ∷ fs) f = end-snoc g.value.end fs f

-- The first that is left was read here, and those behind it are left where it ends
pub record Here (s : List ℕ) (at : ℕ) (f : Field) (rest : List Field) : Type 0 where
  pub read : field_at s at ≡ answered f
  pub behind : rest ≡ items_left s f.value.end

pub items_here : (s : List ℕ) (at : ℕ) (f : Field) (rest : List Field) → items_left s at ≡ f ∷ rest → Here s at f rest
items_here s at f rest e = go (field_at s at) refl
  where
    go : (r : Reply Field) → field_at s at ≡ r → Here s at f rest
    go (refused n c) k = absurd (nil≢cons (sym (none_from (length s) s at n c (sym k)) ∙ e))
    go (answered g) k =
        let both : g ∷ items_left s g.value.end ≡ f ∷ rest = sym (items_some s at g (sym k)) ∙ e in
        let same : g ≡ f = cc in
        record {
          read = k ∙ ap answered same;
          behind = let rest_is : items_left s g.value.end ≡ rest = cc in sym rest_is ∙ ap (λ (x : Field). items_left s x.value.end) same;
        }
