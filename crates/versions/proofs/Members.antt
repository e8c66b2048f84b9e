-- The members by a word: the table entries whose bit is set. Those of the word of a test; the walk over a table with
-- what is left of a word; and from set bit to set bit, the lowest first.
use Prim.Native.Nat.{ℕ, zero, suc, ◌+◌, ◌-◌, ◌*◌, ◌/◌, ◌%◌, ◌≤◌, ◌<◌}
use mathlib.Core.Bool.{Bool, true, false, ◌&&◌, ◌||◌, and-false, or-true}
use mathlib.Core.List.{List, [], ◌∷◌}
use mathlib.Core.Path.{◌≡◌, refl, sym, ap₂}
use native.Mathlib.Nat.{min-zero, mod-lt, zero-min}
use native.Mathlib.Omega.{arith}
use lib.Bits.{bit_and, and_step, and_self}
use lib.Count.{count_trailing_zeros, under}
use lib.Dec.{eqb, lit<}
use lib.ListN.{length, drop, get_or, drop_of_length-le}
use borrow.Author.Tests.{eqb-true, eq-eqb, ne_eqb}
use Rattle.versions.specs.Table.{elem}
use Rattle.versions.specs.Words.{bit_at, keep_if, entries_where, word_where, members}
use Rattle.versions.proofs.Bits.{lowest-bit, rest-bits, bit-says}
use Rattle.versions.proofs.Lists.{drop-next}

-- Those of the word of a test are the entries that it holds of
pub members-where : (f : ℕ → Bool) (ts : List ℕ) → members (word_where f ts) ts ≡ entries_where f ts
unfolding members word_where entries_where
members-where f [] = refl
members-where f (t ∷ ts) =
    let w = word_where f ts in
    rw (lowest-bit (f t) w, bit-says (f t), rest-bits (f t) w, members-where f ts)

-- One of those entries is an entry of the table that the test holds of
pub elem-where : (f : ℕ → Bool) (ts : List ℕ) (v : ℕ) → elem v (entries_where f ts) ≡ (f v && elem v ts)
unfolding elem entries_where
elem-where f [] v = sym (and-false (f v))
elem-where f (t ∷ ts) v = go (eqb t v) refl (elem-where f ts v)
  where
    rest : List ℕ
    rest = entries_where f ts

    -- v is t, or it is not
    is-t : (b : Bool) → elem v rest ≡ (b && elem v ts) → elem v (keep_if b v rest) ≡ (b && true)
    is-t true ih = rw (eq-eqb v v refl)
    is-t false ih = ih

    not_t : (b : Bool) → eqb t v ≡ false → elem v rest ≡ (f v && elem v ts) → elem v (keep_if b t rest) ≡ (f v && elem v ts)
    not_t true e ih = rw e ih
    not_t false e ih = ih

    go : (b : Bool) → eqb t v ≡ b → elem v rest ≡ (f v && elem v ts) → elem v (keep_if (f t) t rest) ≡ (f v && (b || elem v ts))
    go true e ih = rw (eqb-true t v e) (is-t (f v) ih)
    go false e ih = not_t (f t) e ih

-- The members by two words are the same where the bits of the table's entries are
pub members-same : (t : List ℕ) (a b : ℕ) → ((j : ℕ) → j < length t → bit_at a j ≡ bit_at b j) → members a t ≡ members b t
unfolding members
members-same [] a b same = refl
members-same (v ∷ t) a b same =
    ap₂ (λ (k : Bool) (vs : List ℕ). keep_if k v vs) (same 0 (omega arith))
    (members-same t (a / 2) (b / 2) (λ j h. same (suc j) (omega arith)))

-- The members are entries of the table,
pub members-held : (word : ℕ) (table : List ℕ) (v : ℕ) → elem v (members word table) ≡ true → elem v table ≡ true
unfolding members elem
members-held word [] v h = h
members-held word (t ∷ table) v h = go (bit_at word 0) h (members-held (word / 2) table v)
  where
    either : (b p q : Bool) → (b || p) ≡ true → (p ≡ true → q ≡ true) → (b || q) ≡ true
    either true p q h f = refl
    either false p q h f = f h

    go : (b : Bool) → elem v (keep_if b t (members (word / 2) table)) ≡ true →
        (elem v (members (word / 2) table) ≡ true → elem v table ≡ true) → (eqb t v || elem v table) ≡ true
    go true h ih = either (eqb t v) _ _ h ih
    go false h ih = rw (ih h) (or-true (eqb t v))

-- and no more than it has
pub length-members : (word : ℕ) (table : List ℕ) → length (members word table) ≤ length table
unfolding members
length-members word [] = omega arith
length-members word (t ∷ table) = go (bit_at word 0) (length-members (word / 2) table)
  where
    go : (b : Bool) → length (members (word / 2) table) ≤ length table →
        length (keep_if b t (members (word / 2) table)) ≤ length (t ∷ table)
    go true h = omega (arith, h)
    go false h = omega (arith, h)

-- `members`, with what is left of a word
module _ (xs : List ℕ) (rest i : ℕ) where
  pub bit-set : i < length xs → rest % 2 ≡ 1 → members rest (drop i xs) ≡ get_or xs i 0 ∷ members (rest / 2) (drop (i + 1) xs)
  unfolding members
  bit-set h b = rw (drop-next xs i 0 h, eq-eqb _ _ b)

  pub bit-clear : i < length xs → (rest % 2 ≡ 1 → ⊥) → members rest (drop i xs) ≡ members (rest / 2) (drop (i + 1) xs)
  unfolding members
  bit-clear h b = rw (drop-next xs i 0 h, ne_eqb _ _ b)

  pub bits-end : length xs ≤ i → members rest (drop i xs) ≡ []
  unfolding members
  bits-end h = rw (drop_of_length-le xs h)

-- A word without its lowest set bit, in halves

unfoldable pub cleared : ℕ → ℕ
cleared w = bit_and w (w - 1)

cleared-even : (w : ℕ) → w % 2 ≡ 0 → cleared w ≡ cleared (w / 2) * 2
unfolding cleared
cleared-even w e =
    let half : (w - 1) / 2 ≡ w / 2 - 1 = omega arith in
    rw (and_step w (w - 1), half, e, zero-min ((w - 1) % 2)) (omega arith)

cleared-odd : (w : ℕ) → w % 2 ≡ 1 → cleared w ≡ w / 2 * 2
unfolding cleared
cleared-odd w e =
    let half : (w - 1) / 2 ≡ w / 2 = omega arith in
    let even : (w - 1) % 2 ≡ 0 = omega arith in
    rw (and_step w (w - 1), half, even, and_self (w / 2), min-zero (w % 2)) (omega arith)

-- The members by a word whose lowest set bit is at place k: the entry there comes first, then those by the rest of the
-- word
pub members-first : (bits w : ℕ) (ys : List ℕ) → count_trailing_zeros bits w < bits → count_trailing_zeros bits w < length ys →
    members w ys ≡ get_or ys (count_trailing_zeros bits w) 0 ∷ members (cleared w) ys
unfolding members count_trailing_zeros
members-first zero w ys h l = absurd (omega arith)
members-first (suc bits) w [] h l = absurd (omega arith)
members-first (suc bits) w (y ∷ ys) h l = go (w % 2) refl (mod-lt w (lit< tt)) h l (members-first bits (w / 2) ys)
  where
    k : ℕ
    k = count_trailing_zeros bits (w / 2)

    go : (r : ℕ) → w % 2 ≡ r → r < 2 → under r k < suc bits → under r k < suc (length ys) →
        (k < bits → k < length ys → members (w / 2) ys ≡ get_or ys k 0 ∷ members (cleared (w / 2)) ys) →
        keep_if (eqb r 1) y (members (w / 2) ys) ≡
        get_or (y ∷ ys) (under r k) 0 ∷ keep_if (eqb (cleared w % 2) 1) y (members (cleared w / 2) ys)
    go zero e b h l ih =
        let even : cleared (w / 2) * 2 % 2 ≡ 0 = omega arith in
        let half : cleared (w / 2) * 2 / 2 ≡ cleared (w / 2) = omega arith in
        rw (cleared-even w e, even, half) (ih (omega arith) (omega arith))
    go (suc zero) e b h l ih =
        let even : w / 2 * 2 % 2 ≡ 0 = omega arith in
        let half : w / 2 * 2 / 2 ≡ w / 2 = omega arith in
        rw (cleared-odd w e, even, half)
    go (suc (suc r)) e b h l ih = absurd (omega arith)

-- or there is no entry at place k: no entry is a member
pub members-none : (bits w : ℕ) (ys : List ℕ) → length ys ≤ count_trailing_zeros bits w → members w ys ≡ []
unfolding members count_trailing_zeros
members-none bits w [] h = refl
members-none zero w (y ∷ ys) h = absurd (omega arith)
members-none (suc bits) w (y ∷ ys) h = go (w % 2) (mod-lt w (lit< tt)) h (members-none bits (w / 2) ys)
  where
    go : (r : ℕ) → r < 2 → suc (length ys) ≤ under r (count_trailing_zeros bits (w / 2)) →
        (length ys ≤ count_trailing_zeros bits (w / 2) → members (w / 2) ys ≡ []) → keep_if (eqb r 1) y (members (w / 2) ys) ≡ []
    go zero b h ih = ih (omega arith)
    go (suc zero) b h ih = absurd (omega arith)
    go (suc (suc r)) b h ih = absurd (omega arith)
