-- The own list of a record, by the tests of the record and the first place of its attempted version.
use Prim.Native.Nat.{ℕ, suc, ◌≤◌, ◌<◌}
use mathlib.Core.Bool.{Bool, true, false, cond}
use mathlib.Core.List.{List, [], ◌∷◌}
use mathlib.Core.Path.{◌≡◌, refl, sym}
use Rattle.std.specs.Prelude.{Some, None}
use Rattle.std.proofs.lemmas.Option.{same_Some, none-some}
use native.Mathlib.Omega.{arith}
use lib.Dec.{eqb}
use lib.ListN.{length, get_or}
use Rattle.versions.specs.Table.{place_of}
use Rattle.versions.proofs.Lists.{place-absent, place-present}
use Rattle.attempt.specs.Attempt.{table_of, own_of}
use Rattle.versions.specs.Words.{members}
use Rattle.attempt.specs.Step.{counts_fit}
use Rattle.attempt.specs.OwnList.{word_of}
use Rattle.c_record.specs.Records.{marks_fit, is_record, attempt_of, own_record, own_count}
use Rattle.c_record.specs.declared.Record.{Record}

-- The word of a version, at its first place
word_at : (xs rows : List ℕ) (v : ℕ) → place_of v xs < length xs → word_of xs rows v ≡ get_or rows (place_of v xs) 0
unfolding word_of place_of
word_at [] rows v h = absurd (omega arith)
word_at (x ∷ xs) [] v h = refl
word_at (x ∷ xs) (w ∷ rows) v h = go (eqb x v) h (word_at xs rows v)
  where
    go : (b : Bool) → cond b 0 (suc (place_of v xs)) < suc (length xs) →
        (place_of v xs < length xs → word_of xs rows v ≡ get_or rows (place_of v xs) 0) →
        cond b w (word_of xs rows v) ≡ get_or (w ∷ rows) (cond b 0 (suc (place_of v xs))) 0
    go true h ih = refl
    go false h ih = ih (omega arith)

module _ (r : Record) where
  abbrev pub place : ℕ
  place = place_of r.attempted (table_of (attempt_of r))

  pub no-marks : marks_fit r ≡ false → is_record r ≡ false
  unfolding is_record
  no-marks m = rw m

  module _ (m : marks_fit r ≡ true) where
    pub no-counts : counts_fit (attempt_of r) ≡ false → is_record r ≡ false
    unfolding is_record
    no-counts c = rw (m, c)

    module _ (c : counts_fit (attempt_of r) ≡ true) where
      pub no_place : length (table_of (attempt_of r)) ≤ place → is_record r ≡ false
      unfolding is_record attempt_of
      no_place p = rw (m, c) (place-absent r.attempted (table_of (attempt_of r)) p)

      pub a-place : place < length (table_of (attempt_of r)) → is_record r ≡ true
      unfolding is_record attempt_of
      a-place p = rw (m, c) (place-present r.attempted (table_of (attempt_of r)) p)

  -- the empty list of a record that could not be an attempt's
  pub no_own : is_record r ≡ false → own_record r ≡ []
  unfolding own_record
  no_own h = rw h

  -- the own list of one that could, by the word at that place
  pub own_at : is_record r ≡ true → place < length (table_of (attempt_of r)) →
      own_record r ≡ members (get_or r.rows place 0) (table_of (attempt_of r))
  unfolding own_record own_of attempt_of
  own_at h p = rw (h, word_at (table_of (attempt_of r)) r.rows r.attempted p)

-- What the count tells: the record could be an attempt's, and it is the length of its own list
pub count-is : (r : Record) (n : ℕ) → Some n ≡ own_count r → (is_record r ≡ true) × (n ≡ length (own_record r))
unfolding own_record
count-is r n = go (is_record r)
  where
    go : (b : Bool) → Some n ≡ cond b (Some (length (own_of (attempt_of r)))) None → (b ≡ true) × (n ≡ length (cond b (own_of (attempt_of r)) []))
    go true e = (refl, same_Some n _ e)
    go false e = absurd (none-some n (sym e))

-- there is none where it could not
pub count-none : (r : Record) → None ≡ own_count r → is_record r ≡ false
count-none r = go (is_record r)
  where
    go : (b : Bool) → None ≡ cond b (Some (length (own_of (attempt_of r)))) None → b ≡ false
    go true e = absurd (none-some _ e)
    go false e = refl
