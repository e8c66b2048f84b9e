-- Walks over a table: the word of a version at its first place, and what a walk from set bit to set bit has collected.
use Prim.Native.Nat.{ℕ, zero, suc, ◌+◌, ◌-◌, ◌≤◌, ◌<◌, min}
use mathlib.Core.Bool.{true}
use mathlib.Core.List.{List, [], ◌∷◌, ◌++◌, append-nil}
use mathlib.Core.Path.{◌≡◌, refl, sym, ap, ◌∙◌}
use native.Mathlib.Nat.{suc-min-suc, zero-min}
use native.Mathlib.Omega.{arith}
use lib.Bits.{bit_and}
use lib.Count.{count_trailing_zeros}
use lib.ListN.{length, take, drop, get_or, set, length-append, drop_of_length-le}
use lib.Seq.{append_snoc, take-nil}
use borrow.Author.Tests.{eq-eqb, ne_eqb}
use Rattle.versions.specs.Table.{elem}
use Rattle.versions.specs.Words.{members}
use Rattle.versions.proofs.Lists.{drop-next}
use Rattle.versions.proofs.Members.{length-members, cleared, members-first, members-none}
use Rattle.attempt.specs.Attempt.{over}
use Rattle.attempt.specs.OwnList.{word_of}
use Rattle.attempt.proofs.Padded.{push-over}

-- A count past the array counts as the whole array
pub take-cut : (xs : List ℕ) (count : ℕ) → take (min count (length xs)) xs ≡ take count xs
take-cut [] count = rw (take-nil {A = ℕ} (min count 0), take-nil {A = ℕ} count)
take-cut (x ∷ xs) zero = rw (zero-min (suc (length xs)))
take-cut (x ∷ xs) (suc count) = rw (suc-min-suc count (length xs)) (ap (λ (l : List ℕ). x ∷ l) (take-cut xs count))

-- The word of a version: what is left of table and words answers for the whole
module _ (v : ℕ) (xs rows : List ℕ) (i : ℕ) where
  pub word_here : i < length xs → i < length rows → get_or xs i 0 ≡ v → word_of (drop i xs) (drop i rows) v ≡ get_or rows i 0
  unfolding word_of
  word_here h k e = rw (drop-next xs i 0 h, drop-next rows i 0 k, eq-eqb _ _ e)

  pub word_next : i < length xs → i < length rows → (get_or xs i 0 ≡ v → ⊥) →
      word_of (drop i xs) (drop i rows) v ≡ word_of (drop (i + 1) xs) (drop (i + 1) rows) v
  unfolding word_of
  word_next h k e = rw (drop-next xs i 0 h, drop-next rows i 0 k, ne_eqb _ _ e)

pub no_words : (v : ℕ) (xs : List ℕ) → word_of xs [] v ≡ 0
unfolding word_of
no_words v [] = refl
no_words v (x ∷ xs) = refl

pub word_end : (v : ℕ) (xs rows : List ℕ) (i : ℕ) → i ≡ min (length xs) (length rows) → word_of (drop i xs) (drop i rows) v ≡ 0
unfolding word_of
word_end v [] rows i h = rw (drop_of_length-le {A = ℕ} [] {i = i} (omega (arith, h))) refl
word_end v (x ∷ xs) [] i h = rw (drop_of_length-le {A = ℕ} [] {i = i} (omega (arith, h))) (no_words v (drop i (x ∷ xs)))
word_end v (x ∷ xs) (w ∷ rows) zero h = absurd (omega (arith, h))
word_end v (x ∷ xs) (w ∷ rows) (suc i) h = word_end v xs rows i (omega (arith, h))

-- The first of a list is the version, or it is not
pub first-is : (v x : ℕ) (xs : List ℕ) → x ≡ v → elem v (x ∷ xs) ≡ true
unfolding elem
first-is v x xs e = rw (eq-eqb _ _ e)

pub first-is-not : (v x : ℕ) (xs : List ℕ) → (x ≡ v → ⊥) → elem v (x ∷ xs) ≡ elem v xs
unfolding elem
first-is-not v x xs e = rw (ne_eqb _ _ e)

-- What a walk has collected: the entries so far, over what was found, and that the rest of the word adds what is missing
pub record Collected (word : ℕ) (table found places : List ℕ) (count rest : ℕ) : Type 0 where
  pub done : List ℕ
  pub placed : places ≡ over done found
  pub counted : count ≡ length done
  pub whole : done ++ members rest table ≡ members word table

pub collected-none : (word : ℕ) (table found : List ℕ) → Collected word table found found 0 word
collected-none word table found = record { done = []; placed = refl; counted = refl; whole = refl }

module _ (word : ℕ) (xs found places : List ℕ) (count rest bits : ℕ) (c : Collected word xs found places count rest) where
  abbrev lowest : ℕ
  lowest = count_trailing_zeros bits rest

  abbrev next : ℕ
  next = get_or xs lowest 0

  -- one entry more, that of the lowest set bit
  module _ (b : lowest < bits) (h : lowest < length xs) where
    with-next : (c.done ++ (next ∷ [])) ++ members (cleared rest) xs ≡ members word xs
    with-next =
        append_snoc c.done next (members (cleared rest) xs) ∙
        ap (λ (l : List ℕ). c.done ++ l) (sym (members-first bits rest xs b h)) ∙
        c.whole

    -- there is a place for it
    pub room : length xs ≤ length found → count < length found
    room fits =
        let all : length ((c.done ++ (next ∷ [])) ++ members (cleared rest) xs) ≡ length (members word xs) = ap length with-next in
        let some = length-append (c.done ++ (next ∷ [])) (members (cleared rest) xs) in
        let one = length-append c.done (next ∷ []) in
        let most = length-members word xs in
        let e = c.counted in
        omega arith

    pub collected-one : length xs ≤ length found →
        Collected word xs found (set places count next) (count + 1) (bit_and rest (rest - 1))
    unfolding cleared
    collected-one fits =
        let e = c.counted in
        record {
          done = c.done ++ (next ∷ []);
          placed = rw c.placed (push-over found c.done count next (sym e) (room fits));
          counted = rw (length-append c.done (next ∷ []), e);
          whole = with-next;
        }

  -- no entry more
  pub collected-all : length xs ≤ lowest → (count ≡ length (members word xs)) × (places ≡ over (members word xs) found)
  collected-all h =
      let none = members-none bits rest xs h in
      let all : c.done ≡ members word xs =
      sym (append-nil c.done) ∙ ap (λ (l : List ℕ). c.done ++ l) (sym none) ∙ c.whole in
      (c.counted ∙ ap length all, c.placed ∙ ap (λ (l : List ℕ). over l found) all)
