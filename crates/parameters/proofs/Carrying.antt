-- Parameters that carry our value: their identifiers, where ours is found, the others, and once more with the same value.
use Prim.Native.Nat.{ℕ, ◌^◌}
use mathlib.Core.Bool.{Bool, true, false, cond, ◌||◌, true≢false, false≢true, or_assoc, or-false}
use mathlib.Core.List.{List, [], ◌∷◌, ◌++◌}
use Rattle.std.specs.Prelude.{Option, None, Some}
use Rattle.std.proofs.lemmas.Option.{none-some}
use mathlib.Core.Path.{◌≡◌, refl, sym, ap, ◌∙◌}
use borrow.Author.Tests.{eqb-true, eqb-false, ne_eqb}
use lib.Dec.{eqb}
use Rattle.versions.specs.Table.{elem}
use Rattle.lists.specs.Wire.{all_below}
use Rattle.lists.specs.declared.Span.{Span}
use Rattle.lists.proofs.Entries.{all_below-append}
use Rattle.parameters.specs.Limits.{version_information}
use Rattle.parameters.specs.Sequence.{Field, bytes_in, ids_of, repeats}
use Rattle.parameters.specs.Reading.{carried}
use Rattle.parameters.specs.Writing.{Content, contents_in, is_ours, ours, holds_ours, renewed, carrying}
use Rattle.parameters.specs.Laws.{others, placed, placed_at, with_ours}

-- Where not one of two holds, neither does
pub neither : (a b : Bool) → (a || b) ≡ false → (a ≡ false) × (b ≡ false)
neither true b e = absurd (true≢false e)
neither false b e = (refl, e)

-- ---- identifiers

-- The identifiers of parameters, in their order
unfoldable pub ids_in : List Content → List ℕ
ids_in [] = []
ids_in (p ∷ ps) = p.id ∷ ids_in ps

-- Those of what fields say are those of the fields
pub ids-contents : (s : List ℕ) (fs : List Field) → ids_in (contents_in s fs) ≡ ids_of fs
unfolding ids_in contents_in ids_of
ids-contents s [] = refl
ids-contents s (f ∷ fs) = ap (λ (l : List ℕ). f.id ∷ l) (ids-contents s fs)

-- and so are those of what was put at places
pub ids-placed : (at : ℕ) (ps : List Content) → ids_of (placed at ps) ≡ ids_in ps
unfolding ids_in placed ids_of
ids-placed at [] = refl
ids-placed at (p ∷ ps) = ap (λ (l : List ℕ). p.id ∷ l) (ids-placed (placed_at at p).value.end ps)

-- Ours is there where its identifier is
pub holds_elem : (ps : List Content) → holds_ours ps ≡ elem version_information (ids_in ps)
unfolding ids_in holds_ours elem
holds_elem [] = refl
holds_elem (p ∷ ps) = ap (λ (b : Bool). is_ours p || b) (holds_elem ps)

-- A value anew leaves the identifiers
ids-renewed : (value : List ℕ) (ps : List Content) → ids_in (renewed value ps) ≡ ids_in ps
unfolding ids_in renewed
ids-renewed value [] = refl
ids-renewed value (p ∷ ps) = rw (same (is_ours p) (eqb-true _ _), ids-renewed value ps) refl
  where
    same : (b : Bool) → (b ≡ true → p.id ≡ version_information) → (cond b (ours value) p).id ≡ p.id
    same true h = sym (h refl)
    same false h = refl

-- Ours behind them adds its own
ids-last : (value : List ℕ) (ps : List Content) → ids_in (ps ++ (ours value ∷ [])) ≡ ids_in ps ++ (version_information ∷ [])
unfolding ids_in
ids-last value [] = refl
ids-last value (p ∷ ps) = ap (λ (l : List ℕ). p.id ∷ l) (ids-last value ps)

-- Carrying ours is one of two things, as ours was there or was missing
pub by-holding : (P : List Content → Type 0) (value : List ℕ) (ps : List Content)
    → (holds_ours ps ≡ true → P (renewed value ps)) → (holds_ours ps ≡ false → P (ps ++ (ours value ∷ []))) → P (carrying value ps)
unfolding carrying
by-holding P value ps there missing = go (holds_ours ps) there missing
  where
    go : (b : Bool) → (b ≡ true → P (renewed value ps)) → (b ≡ false → P (ps ++ (ours value ∷ [])))
        → P (cond b (renewed value ps) (ps ++ (ours value ∷ [])))
    go true there missing = there refl
    go false there missing = missing refl

-- The identifiers stay in their order, and ours is added last where it was missing
pub ids-carrying : (value : List ℕ) (ps : List Content) → ids_in (carrying value ps) ≡ with_ours (ids_in ps)
ids-carrying value ps =
    by-holding (λ (new : List Content). ids_in new ≡ with_ours (ids_in ps)) value ps
    (λ h. rw (← holds_elem ps, h) (ids-renewed value ps)) (λ h. rw (← holds_elem ps, h) (ids-last value ps))

-- A number is among others and a last one where it is among the others or is the last
elem-last : (v x : ℕ) (xs : List ℕ) → elem v (xs ++ (x ∷ [])) ≡ (elem v xs || eqb x v)
unfolding elem
elem-last v x [] = or-false (eqb x v)
elem-last v x (y ∷ ys) = ap (λ (b : Bool). eqb y v || b) (elem-last v x ys) ∙ sym (or_assoc (eqb y v) (elem v ys) (eqb x v))

-- A number that does not occur can be added
repeats-last : (x : ℕ) (xs : List ℕ) → elem x xs ≡ false → repeats xs ≡ false → repeats (xs ++ (x ∷ [])) ≡ false
unfolding repeats elem
repeats-last x [] other once = refl
repeats-last x (y ∷ ys) other once =
    let o = neither (eqb y x) (elem x ys) other in
    let r = neither (elem y ys) (repeats ys) once in
    let unlike : eqb x y ≡ false = ne_eqb x y (λ e. eqb-false y x o.0 (sym e)) in
    rw (elem-last y x ys, r.0, unlike, repeats-last x ys o.1 r.1) refl

-- Where no identifier occurs twice, none does with ours
pub once-carrying : (value : List ℕ) (ps : List Content) → repeats (ids_in ps) ≡ false → repeats (ids_in (carrying value ps)) ≡ false
once-carrying value ps once =
    by-holding (λ (new : List Content). repeats (ids_in new) ≡ false) value ps
    (λ h. rw (ids-renewed value ps) once) (λ h. rw (ids-last value ps) (repeats-last version_information (ids_in ps) (sym (holds_elem ps) ∙ h) once))

-- Where each identifier can be written, each can with ours
pub held-carrying : (value : List ℕ) (ps : List Content) → all_below (2 ^ 62) (ids_in ps) ≡ true → all_below (2 ^ 62) (ids_in (carrying value ps)) ≡ true
unfolding all_below
held-carrying value ps held =
    by-holding (λ (new : List Content). all_below (2 ^ 62) (ids_in new) ≡ true) value ps
    (λ h. rw (ids-renewed value ps) held) (λ h. rw (ids-last value ps) (all_below-append (2 ^ 62) (ids_in ps) (version_information ∷ []) held refl))

-- ---- our value

-- The value of ours, the first if there are more
unfoldable pub our_value : List Content → Option (List ℕ)
our_value [] = None
our_value (p ∷ ps) = cond (is_ours p) (Some p.value) (our_value ps)

-- Where ours was there, its value is the new one
value-renewed : (value : List ℕ) (ps : List Content) → holds_ours ps ≡ true → our_value (renewed value ps) ≡ Some value
unfolding holds_ours renewed our_value
value-renewed value [] h = absurd (false≢true h)
value-renewed value (p ∷ ps) h = go (is_ours p) refl h (value-renewed value ps)
  where
    go : (b : Bool) → is_ours p ≡ b → (b || holds_ours ps) ≡ true → (holds_ours ps ≡ true → our_value (renewed value ps) ≡ Some value)
        → our_value (cond b (ours value) p ∷ renewed value ps) ≡ Some value
    go true k h next = refl
    go false k h next = rw k (next h)

-- and where it was missing too
value-last : (value : List ℕ) (ps : List Content) → holds_ours ps ≡ false → our_value (ps ++ (ours value ∷ [])) ≡ Some value
unfolding holds_ours our_value
value-last value [] h = refl
value-last value (p ∷ ps) h = let n = neither (is_ours p) (holds_ours ps) h in rw n.0 (value-last value ps n.1)

-- Parameters that carry a value have it
pub value-carrying : (value : List ℕ) (ps : List Content) → our_value (carrying value ps) ≡ Some value
value-carrying value ps =
    by-holding (λ (new : List Content). our_value new ≡ Some value) value ps (value-renewed value ps) (value-last value ps)

-- The reader finds the value of ours
pub value_found : (s : List ℕ) (fs : List Field) (value : List ℕ) → our_value (contents_in s fs) ≡ Some value
    → (place : Span) × (carried fs ≡ Some place) × (bytes_in s place ≡ value)
unfolding our_value contents_in carried
value_found s [] value e = absurd (none-some _ e)
value_found s (f ∷ fs) value e = go (eqb f.id version_information) e (value_found s fs value)
  where
    go : (b : Bool) → cond b (Some (bytes_in s f.value)) (our_value (contents_in s fs)) ≡ Some value
        → (our_value (contents_in s fs) ≡ Some value → (place : Span) × (carried fs ≡ Some place) × (bytes_in s place ≡ value))
        → (place : Span) × (cond b (Some f.value) (carried fs) ≡ Some place) × (bytes_in s place ≡ value)
    go true e next = (f.value, refl, cc)
    go false e next = next e

-- The value that the reader finds is that of ours
pub found-value : (s : List ℕ) (fs : List Field) (place : Span) → carried fs ≡ Some place → our_value (contents_in s fs) ≡ Some (bytes_in s place)
unfolding our_value contents_in carried
found-value s [] place e = absurd (none-some _ e)
found-value s (f ∷ fs) place e = go (eqb f.id version_information) e (found-value s fs place)
  where
    go : (b : Bool) → cond b (Some f.value) (carried fs) ≡ Some place
        → (carried fs ≡ Some place → our_value (contents_in s fs) ≡ Some (bytes_in s place))
        → cond b (Some (bytes_in s f.value)) (our_value (contents_in s fs)) ≡ Some (bytes_in s place)
    go true e next = let same : f.value ≡ place = cc in ap (λ (part : Span). Some (bytes_in s part)) same
    go false e next = next e

-- ---- the others

-- A value anew leaves the others
others-renewed : (value : List ℕ) (ps : List Content) → others (renewed value ps) ≡ others ps
unfolding others renewed
others-renewed value [] = refl
others-renewed value (p ∷ ps) = rw (← others-renewed value ps) (go (is_ours p) refl)
  where
    go : (b : Bool) → is_ours p ≡ b
        → others (cond b (ours value) p ∷ renewed value ps) ≡ cond b (others (renewed value ps)) (p ∷ others (renewed value ps))
    go true k = refl
    go false k = rw k refl

-- and so does ours behind them
others-last : (value : List ℕ) (ps : List Content) → others (ps ++ (ours value ∷ [])) ≡ others ps
unfolding others
others-last value [] = refl
others-last value (p ∷ ps) = rw (others-last value ps) refl

-- The others stay
pub others-carrying : (value : List ℕ) (ps : List Content) → others (carrying value ps) ≡ others ps
others-carrying value ps =
    by-holding (λ (new : List Content). others new ≡ others ps) value ps (λ h. others-renewed value ps) (λ h. others-last value ps)

-- ---- the same value once more

-- Where ours is missing, a value anew changes nothing
pub renewed-missing : (value : List ℕ) (ps : List Content) → holds_ours ps ≡ false → renewed value ps ≡ ps
unfolding holds_ours renewed
renewed-missing value [] h = refl
renewed-missing value (p ∷ ps) h = let n = neither (is_ours p) (holds_ours ps) h in rw (n.0, renewed-missing value ps n.1) refl

-- Where ours is there once, its own value anew changes nothing
renewed-same : (value : List ℕ) (ps : List Content) → our_value ps ≡ Some value → repeats (ids_in ps) ≡ false
    → (holds_ours ps ≡ true) × (renewed value ps ≡ ps)
unfolding our_value repeats ids_in holds_ours renewed
renewed-same value [] e once = absurd (none-some _ e)
renewed-same value (p ∷ ps) e once =
    let o = neither (elem p.id (ids_in ps)) (repeats (ids_in ps)) once in
    go (is_ours p) (eqb-true _ _) e o.0 (λ k. renewed-same value ps k o.1)
  where
    go : (b : Bool) → (b ≡ true → p.id ≡ version_information) → cond b (Some p.value) (our_value ps) ≡ Some value
        → elem p.id (ids_in ps) ≡ false → (our_value ps ≡ Some value → (holds_ours ps ≡ true) × (renewed value ps ≡ ps))
        → ((b || holds_ours ps) ≡ true) × (cond b (ours value) p ∷ renewed value ps ≡ p ∷ ps)
    go true k e other next =
        let missing : holds_ours ps ≡ false = holds_elem ps ∙ ap (λ (v : ℕ). elem v (ids_in ps)) (sym (k refl)) ∙ other in
        let same : p.value ≡ value = cc in
        (refl, rw (k refl, same, renewed-missing value ps missing) refl)
    go false k e other next = ((next e).0, ap (λ (l : List Content). p ∷ l) (next e).1)

-- Parameters that have a value, and no identifier twice, carry it already
pub carrying-same : (value : List ℕ) (ps : List Content) → our_value ps ≡ Some value → repeats (ids_in ps) ≡ false → carrying value ps ≡ ps
unfolding carrying
carrying-same value ps e once = let r = renewed-same value ps e once in rw r.0 r.1
