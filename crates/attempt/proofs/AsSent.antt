-- The own list as sent (document 02, C-18). It has as many entries as it was given; each reserved number stands at its place;
-- without the reserved numbers it is the own list in its order. With none given it is the own list itself.
use Prim.Native.Nat.{ℕ, zero, suc, ◌+◌, ◌<◌, ◌≤◌}
use mathlib.Core.Bool.{Bool, true, false, cond, not, ◌||◌, true≢false}
use mathlib.Core.List.{List, [], ◌∷◌}
use Rattle.std.specs.Prelude.{Option, None, Some}
use Rattle.std.proofs.lemmas.Option.{none-some, same_Some}
use mathlib.Core.Path.{◌≡◌, refl, sym, ap, subst, ◌∙◌}
use native.Mathlib.Omega.{arith}
use lib.Dec.{eqb, leb, ltb}
use lib.ListN.{length, get_or}
use borrow.Author.Tests.{eqb-true, eqb-false, eq-eqb, ne_eqb, leb-true, leb-false, le-leb, lt-leb, ltb-true, not-true}
use Rattle.refusals.proofs.Rules.{both_true}
use Rattle.versions.specs.Limits.{max_reserved}
use Rattle.versions.specs.Reserved.{without_reserved}
use Rattle.versions.specs.Table.{elem}
use Rattle.versions.specs.Version.{reserved}
use Rattle.versions.specs.Words.{bit, keep_if, entries_where}
use Rattle.versions.proofs.WithoutReserved.{elem-without}
use Rattle.attempt.specs.AsSent.{number_in, place_in, given_for, sent_at, own_after, sent_from, sent_count, list_as_sent}
use Rattle.attempt.specs.AsSent.{is_taken, each_given_keeps_rule, given_keep_rule}

-- ---- how many entries

length_from : (count place : ℕ) (own : List ℕ) (given : List (List ℕ)) → length (sent_from count place own given) ≡ count
unfolding sent_from
length_from zero place own given = refl
length_from (suc count) place own given = ap suc (length_from count (suc place) (own_after (given_for given place) own) given)

pub length-sent : (own : List ℕ) (given : List (List ℕ)) → length (list_as_sent own given) ≡ sent_count own given
unfolding list_as_sent
length-sent own given = length_from (sent_count own given) 0 own given

-- ---- nothing is given

from_nothing : (own : List ℕ) (place : ℕ) → sent_from (length own) place own [] ≡ own
unfolding sent_from given_for
from_nothing [] place = refl
from_nothing (v ∷ own) place = ap (λ (l : List ℕ). v ∷ l) (from_nothing own (suc place))

pub sent-nothing : (own : List ℕ) → list_as_sent own [] ≡ own
unfolding list_as_sent
sent-nothing own =
    let None : length own + 0 ≡ length own = omega arith in
    ap (λ (n : ℕ). sent_from n 0 own []) None ∙ from_nothing own 0

-- ---- the rule, taken apart

pub record Kept (count : ℕ) (one : List ℕ) (given : List (List ℕ)) : Type 0 where
  pub reserves : reserved (number_in one) ≡ true
  pub within : place_in one < count
  pub alone : is_taken one given ≡ false
  pub others : each_given_keeps_rule count given ≡ true

pub kept : (count : ℕ) (one : List ℕ) (given : List (List ℕ)) → each_given_keeps_rule count (one ∷ given) ≡ true → Kept count one given
unfolding each_given_keeps_rule
kept count one given h =
    let p = both_true _ (each_given_keeps_rule count given) h in
    let q = both_true (reserved (number_in one)) _ p.0 in
    let w = both_true (ltb (place_in one) count) _ q.1 in
    record {
      reserves = q.0;
      within = ltb-true (place_in one) count w.0;
      alone = not-true (is_taken one given) w.1;
      others = p.1;
    }

pub each-kept : (count : ℕ) (given : List (List ℕ)) → given_keep_rule count given ≡ true → each_given_keeps_rule count given ≡ true
unfolding given_keep_rule
each-kept count given h = (both_true (leb (length given) max_reserved) _ h).1

pub given-few : (count : ℕ) (given : List (List ℕ)) → given_keep_rule count given ≡ true → length given ≤ max_reserved
unfolding given_keep_rule
given-few count given h = leb-true _ _ (both_true (leb (length given) max_reserved) _ h).0

-- Of those that do not have its place none is given for it
apart : (one other : List ℕ) (given : List (List ℕ)) → is_taken one (other ∷ given) ≡ false
    → (place_in other ≡ place_in one → ⊥) × (is_taken one given ≡ false)
unfolding is_taken
apart one other given h = go (eqb (number_in other) (number_in one)) (eqb (place_in other) (place_in one)) refl h
  where
    go : (a b : Bool) → eqb (place_in other) (place_in one) ≡ b → ((a || b) || is_taken one given) ≡ false →
        (place_in other ≡ place_in one → ⊥) × (is_taken one given ≡ false)
    go true b e h = absurd (true≢false h)
    go false true e h = absurd (true≢false h)
    go false false e h = (eqb-false _ _ e, h)

none-for : (one : List ℕ) (given : List (List ℕ)) → is_taken one given ≡ false → given_for given (place_in one) ≡ None
unfolding given_for
none-for one [] h = refl
none-for one (other ∷ given) h =
    let p = apart one other given h in
    rw (ne_eqb (place_in other) (place_in one) p.0) (none-for one given p.1)

-- ---- each number at its place

found : (count : ℕ) (given : List (List ℕ)) (i : ℕ) → each_given_keeps_rule count given ≡ true → i < length given
    → (given_for given (place_in (get_or given i [])) ≡ Some (number_in (get_or given i []))) × (place_in (get_or given i []) < count)
unfolding given_for
found count [] i h l = absurd (omega arith)
found count (one ∷ given) zero h l =
    (rw (eq-eqb (place_in one) (place_in one) refl), (kept count one given h).within)
found count (one ∷ given) (suc i) h l =
    let k = kept count one given h in
    let r = found count given i k.others (omega arith) in
    (rw (ne_eqb (place_in one) (place_in (get_or given i [])) (other r.0 k.alone)) r.0, r.1)
  where
    -- the place of one is not that of another, since of the others none is given for it
    other : given_for given (place_in (get_or given i [])) ≡ Some (number_in (get_or given i [])) → is_taken one given ≡ false
        → place_in one ≡ place_in (get_or given i []) → ⊥
    other r alone e = none-some _ (sym (none-for one given alone) ∙ ap (given_for given) e ∙ r)

at_place : (count place : ℕ) (own : List ℕ) (given : List (List ℕ)) (k r : ℕ) → given_for given (place + k) ≡ Some r → k < count
    → get_or (sent_from count place own given) k 0 ≡ r
unfolding sent_from
at_place zero place own given k r h l = absurd (omega arith)
at_place (suc count) place own given zero r h l =
    let same : place + 0 ≡ place = omega arith in
    ap (λ (o : Option ℕ). sent_at o own) (sym (ap (given_for given) same) ∙ h)
at_place (suc count) place own given (suc k) r h l =
    let same : place + suc k ≡ suc place + k = omega arith in
    at_place count (suc place) (own_after (given_for given place) own) given k r (sym (ap (given_for given) same) ∙ h) (omega arith)

-- Document 02, C-18: "each at a place the caller gives"; "Places are counted from 0 in the list as sent."
pub number-at-place : (own : List ℕ) (given : List (List ℕ)) (i : ℕ) → given_keep_rule (sent_count own given) given ≡ true
    → i < length given → get_or (list_as_sent own given) (place_in (get_or given i [])) 0 ≡ number_in (get_or given i [])
unfolding list_as_sent
number-at-place own given i h l =
    let f = found (sent_count own given) given i (each-kept _ given h) l in
    let place : ℕ = place_in (get_or given i []) in
    let here : 0 + place ≡ place = omega arith in
    at_place (sent_count own given) 0 own given place (number_in (get_or given i [])) (ap (given_for given) here ∙ f.0) f.1

-- ---- the own versions fill the rest, in their order

-- How many are given for a place or a later one
from_place : ℕ → List (List ℕ) → ℕ
from_place place [] = 0
from_place place (one ∷ given) = bit (leb place (place_in one)) + from_place place given

from_first : (given : List (List ℕ)) → from_place 0 given ≡ length given
unfolding from_place
from_first [] = refl
from_first (one ∷ given) = let all = from_first given in rw (le-leb 0 (place_in one) (omega arith)) (omega arith)

-- another place is beyond a place where it is beyond the next
beyond : (place q : ℕ) → (q ≡ place → ⊥) → leb place q ≡ leb (suc place) q
beyond place q other = go (leb place q) refl
  where
    go : (b : Bool) → leb place q ≡ b → b ≡ leb (suc place) q
    go true e = let l = leb-true place q e in sym (le-leb (suc place) q (omega arith))
    go false e = let l = leb-false place q e in sym (lt-leb (suc place) q (omega arith))

-- where none is given for it
from-none : (given : List (List ℕ)) (place : ℕ) → given_for given place ≡ None → from_place place given ≡ from_place (suc place) given
unfolding given_for from_place
from-none [] place h = refl
from-none (one ∷ given) place h = go (eqb (place_in one) place) refl h (from-none given place)
  where
    go : (b : Bool) → eqb (place_in one) place ≡ b → cond b (Some (number_in one)) (given_for given place) ≡ None →
        (given_for given place ≡ None → from_place place given ≡ from_place (suc place) given) →
        bit (leb place (place_in one)) + from_place place given ≡ bit (leb (suc place) (place_in one)) + from_place (suc place) given
    go true e h ih = absurd (none-some _ (sym h))
    go false e h ih = rw (beyond place (place_in one) (eqb-false _ _ e), ih h)

-- where one is, and it is reserved
from_some : (count : ℕ) (given : List (List ℕ)) (place r : ℕ) → each_given_keeps_rule count given ≡ true → given_for given place ≡ Some r
    → (from_place place given ≡ suc (from_place (suc place) given)) × (reserved r ≡ true)
unfolding given_for from_place
from_some count [] place r k h = absurd (none-some r h)
from_some count (one ∷ given) place r k h = go (eqb (place_in one) place) refl h (kept count one given k) (from_some count given place r)
  where
    go : (b : Bool) → eqb (place_in one) place ≡ b → cond b (Some (number_in one)) (given_for given place) ≡ Some r → Kept count one given →
        (each_given_keeps_rule count given ≡ true → given_for given place ≡ Some r →
        (from_place place given ≡ suc (from_place (suc place) given)) × (reserved r ≡ true)) →
        (bit (leb place (place_in one)) + from_place place given ≡ suc (bit (leb (suc place) (place_in one)) + from_place (suc place) given))
        × (reserved r ≡ true)
    go true e h k ih =
        let here : place_in one ≡ place = eqb-true _ _ e in
        let rest = from-none given place (sym (ap (given_for given) here) ∙ none-for one given k.alone) in (
          rw (le-leb place (place_in one) (omega arith), lt-leb (suc place) (place_in one) (omega arith), rest) (omega arith),
          sym (ap reserved (same_Some _ _ h)) ∙ k.reserves,
        )
    go false e h k ih =
        let p = ih k.others h in
        (rw (beyond place (place_in one) (eqb-false _ _ e), p.0) (omega arith), p.1)

-- none is given past the end
from_end : (count : ℕ) (given : List (List ℕ)) (place : ℕ) → each_given_keeps_rule count given ≡ true → count ≤ place → from_place place given ≡ 0
unfolding from_place
from_end count [] place k l = refl
from_end count (one ∷ given) place k l =
    let one_kept = kept count one given k in
    let before = one_kept.within in
    let None = from_end count given place one_kept.others l in
    rw (lt-leb place (place_in one) (omega arith)) (omega arith)

-- The places that are left behind a place, counted from the next one
next-left : (left place : ℕ) (given : List (List ℕ)) → each_given_keeps_rule (place + suc left) given ≡ true
    → each_given_keeps_rule (suc place + left) given ≡ true
next-left left place given k =
    let same : place + suc left ≡ suc place + left = omega arith in
    subst (λ (n : ℕ). each_given_keeps_rule n given ≡ true) same k

-- no more are given from a place on than there are places
from-most : (left place : ℕ) (given : List (List ℕ)) → each_given_keeps_rule (place + left) given ≡ true → from_place place given ≤ left
from-most zero place given k = let e = from_end (place + 0) given place k (omega arith) in omega arith
from-most (suc left) place given k =
    go (given_for given place) refl (from-most left (suc place) given (next-left left place given k))
  where
    go : (o : Option ℕ) → given_for given place ≡ o → from_place (suc place) given ≤ left → from_place place given ≤ suc left
    go None e more = let stays = from-none given place e in omega arith
    go (Some r) e more = let less = (from_some _ given place r k e).0 in omega arith

from-without : (left place : ℕ) (own : List ℕ) (given : List (List ℕ)) → each_given_keeps_rule (place + left) given ≡ true
    → length own + from_place place given ≡ left → without_reserved (sent_from left place own given) ≡ without_reserved own
unfolding sent_from entries_where
from-without zero place [] given k h = refl
from-without zero place (v ∷ own) given k h = absurd (omega arith)
from-without (suc left) place own given k h =
    go (given_for given place) refl own h (λ rest. from-without left (suc place) rest given (next-left left place given k))
  where
    go : (o : Option ℕ) → given_for given place ≡ o → (own : List ℕ) → length own + from_place place given ≡ suc left →
        ((rest : List ℕ) → length rest + from_place (suc place) given ≡ left →
        without_reserved (sent_from left (suc place) rest given) ≡ without_reserved rest) →
        without_reserved (sent_at o own ∷ sent_from left (suc place) (own_after o own) given) ≡ without_reserved own
    go (Some r) e own h ih =
        let one = from_some _ given place r k e in
        let less = one.0 in
        rw one.1 (ih own (omega arith))
    -- own versions never run out early
    go None e [] h ih =
        let stays = from-none given place e in
        let most = from-most left (suc place) given (next-left left place given k) in
        absurd (omega arith)
    go None e (v ∷ own) h ih =
        let stays = from-none given place e in
        ap (keep_if (not (reserved v)) v) (ih own (omega arith))

-- Without its reserved numbers the list as sent is the own list without any, in its order
pub sent-without : (own : List ℕ) (given : List (List ℕ)) → given_keep_rule (sent_count own given) given ≡ true
    → without_reserved (list_as_sent own given) ≡ without_reserved own
unfolding list_as_sent
sent-without own given h =
    let all = from_first given in
    let count : sent_count own given ≡ 0 + sent_count own given = omega arith in
    let each = each-kept (sent_count own given) given h in
    from-without (sent_count own given) 0 own given (subst (λ (n : ℕ). each_given_keeps_rule n given ≡ true) count each) (omega arith)

-- so a version that is not reserved is in the one where it is in the other
pub sent-elem : (own : List ℕ) (given : List (List ℕ)) (v : ℕ) → given_keep_rule (sent_count own given) given ≡ true → reserved v ≡ false
    → elem v (list_as_sent own given) ≡ elem v own
sent-elem own given v h n =
    sym (elem-without v (list_as_sent own given) n) ∙ ap (elem v) (sent-without own given h) ∙ elem-without v own n
