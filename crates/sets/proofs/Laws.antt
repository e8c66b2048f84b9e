-- The laws of lists as words. Document 02, C-15: "Joining lists is joining words, where the joined list keeps within
-- 40. It must give the same choice, refusals included, as the plain way on every table and list." Where a law asks that
-- the table keeps its rule: one that breaks it is a 41 of every call, unless the list is a 40.
use Prim.Native.Nat.{ℕ, ◌+◌, ◌*◌, ◌^◌, ◌≤◌, ◌<◌}
use mathlib.Core.Bool.{Bool, true, false, cond, ◌||◌}
use mathlib.Core.List.{List, [], ◌∷◌, ◌++◌}
use Rattle.std.specs.Prelude.{Option, None, Some}
use Rattle.std.proofs.lemmas.Option.{none-some}
use mathlib.Core.Path.{◌≡◌, refl, sym, ap, ◌∙◌}
use native.Mathlib.Omega.{arith}
use lib.Bits.{bit_or}
use lib.Count.{ones, count_trailing_zeros}
use lib.ListN.{length, get_or, length-append}
use Rattle.refusals.specs.Reply.{Reply.answered, refuse}
use Rattle.refusals.specs.declared.Call.TheVariants.{Reading}
use Rattle.refusals.proofs.Rules.{refused-not-answered}
use Rattle.versions.specs.Table.{elem, table_keeps_rule}
use Rattle.versions.specs.Words.{word_bits, bit_at, bit, word_where}
use Rattle.versions.proofs.Bits.{bit-where, bit_past, word_below, word_same, none-set, word-either, ones-where}
use Rattle.versions.proofs.Members.{members-same}
use Rattle.lists.specs.Limits.{max_list}
use Rattle.lists.specs.Wire.{entry_at}
use Rattle.choosing.specs.Choice.{or_nothing_in_common, preferred, choose}
use Rattle.choosing.proofs.Chosen.{bad-table}
use Rattle.choosing.proofs.Laws.{choose-preferred}
use Rattle.versions.proofs.Lists.{elem-append}
use Rattle.sets.specs.Sets.{held_word, held_count, list_word, choose_from_word, joined}
use Rattle.sets.proofs.Lowest.{preferred-by-word, lowest-member, word-bad-table, word_made}

-- What the bits of a list's word say
module _ (t l : List ℕ) (j : ℕ) where
  -- "Each place of the table is a bit": bit j is set exactly where entry j occurs in the list
  pub word-bit : j < length t → bit_at (held_word t l) j ≡ elem (get_or t j 0) l
  word-bit h = bit-where (λ v. elem v l) t j h

  -- no bit is set at or past the table's length
  pub word-past : length t ≤ j → bit_at (held_word t l) j ≡ false
  word-past h = bit_past (λ v. elem v l) t j h

-- the same as a number
pub word-at-most : (t l : List ℕ) → held_word t l < 2 ^ length t
word-at-most t l = word_below (λ v. elem v l) t

-- "its count of ones is how many table entries the list holds"
pub ones-are-held : (t l : List ℕ) → ones (held_word t l) ≡ held_count t l
ones-are-held t l = ones-where (λ v. elem v l) t

-- of a list's word: the preferred entry, and none where the word is 0
pub lowest-is-preferred : (t l : List ℕ) → table_keeps_rule t ≡ true →
    entry_at t (count_trailing_zeros word_bits (held_word t l)) ≡ preferred t l
lowest-is-preferred t l kept =
    lowest-member t (held_word t l) kept ∙ sym (preferred-by-word t l)

-- of a word of any origin: so it is chosen from
pub lowest-of-word : (t : List ℕ) (w : ℕ) → table_keeps_rule t ≡ true →
    choose_from_word t w ≡ or_nothing_in_common (entry_at t (count_trailing_zeros word_bits w))
unfolding choose_from_word
lowest-of-word t w kept = rw (kept, lowest-member t w kept)

-- The choice by a word is the choice

-- from a list within the limit, by its word
pub by_word : (t l : List ℕ) → length l ≤ max_list → choose t l ≡ choose_from_word t (held_word t l)
unfolding choose_from_word
by_word t l fits = go (table_keeps_rule t) refl
  where
    go : (k : Bool) → table_keeps_rule t ≡ k → choose t l ≡ choose_from_word t (held_word t l)
    go true kept = choose-preferred t l kept fits ∙ rw (kept, preferred-by-word t l)
    go false breaks = rw (bad-table t l fits breaks, breaks)

-- from a word of any origin: bits at or past the table's length change nothing
pub bits-past-ignored : (t : List ℕ) (a b : ℕ) → ((j : ℕ) → j < length t → bit_at a j ≡ bit_at b j) →
    choose_from_word t a ≡ choose_from_word t b
unfolding choose_from_word
bits-past-ignored t a b same = rw (members-same t a b same)

-- nothing is preferred, nothing is chosen, nothing is held
nothing-preferred : (t l : List ℕ) → held_word t l ≡ 0 → preferred t l ≡ None
unfolding preferred word_where
nothing-preferred [] l e = refl
nothing-preferred (v ∷ t) l e = go (elem v l) e (nothing-preferred t l)
  where
    go : (b : Bool) → bit b + 2 * held_word t l ≡ 0 → (held_word t l ≡ 0 → preferred t l ≡ None) →
        cond b (Some v) (preferred t l) ≡ None
    go true e ih = absurd (omega arith)
    go false e ih = ih (omega arith)

nothing-chosen : (o : Option ℕ) → or_nothing_in_common o ≡ refuse Reading 42 → o ≡ None
nothing-chosen None e = refl
nothing-chosen (Some v) e = absurd (refused-not-answered 42 Reading v (sym e))

nothing-held : (t l : List ℕ) → preferred t l ≡ None → held_word t l ≡ 0
unfolding preferred word_where
nothing-held [] l e = refl
nothing-held (v ∷ t) l e = go (elem v l) e (nothing-held t l)
  where
    go : (b : Bool) → cond b (Some v) (preferred t l) ≡ None → (preferred t l ≡ None → held_word t l ≡ 0) →
        bit b + 2 * held_word t l ≡ 0
    go true e ih = absurd (none-some v (sym e))
    go false e ih = rw (ih e)

-- 42 is given exactly where the word is 0
pub nothing-at-zero : (t l : List ℕ) → table_keeps_rule t ≡ true → length l ≤ max_list →
    (held_word t l ≡ 0 → choose t l ≡ refuse Reading 42) × (choose t l ≡ refuse Reading 42 → held_word t l ≡ 0)
nothing-at-zero t l kept fits = (
  λ e. choose-preferred t l kept fits ∙ ap or_nothing_in_common (nothing-preferred t l e),
  λ e. nothing-held t l (nothing-chosen (preferred t l) (sym (choose-preferred t l kept fits) ∙ e)),
)

-- The empty list's word is 0
pub word-of-none : (t : List ℕ) → held_word t [] ≡ 0
unfolding elem
word-of-none t = none-set t

-- Joining lists is joining words: of the words,
pub word-joined : (t a b : List ℕ) → held_word t (a ++ b) ≡ bit_or (held_word t a) (held_word t b)
word-joined t a b =
    word_same (λ v. elem v (a ++ b)) (λ v. elem v a || elem v b) (λ v. elem-append v a b) t ∙
    sym (word-either (λ v. elem v a) (λ v. elem v b) t)

-- of what the calls answer, refusals included,
pub list-word-joined : (t a b : List ℕ) → length (a ++ b) ≤ max_list →
    list_word t (a ++ b) ≡ joined (list_word t a) (list_word t b)
list-word-joined t a b fits = go (table_keeps_rule t) refl
  where
    fits-a : length a ≤ max_list
    fits-a = omega (arith, fits, length-append a b)

    fits-b : length b ≤ max_list
    fits-b = omega (arith, fits, length-append a b)

    go : (k : Bool) → table_keeps_rule t ≡ k → list_word t (a ++ b) ≡ joined (list_word t a) (list_word t b)
    go true kept =
        rw (word_made t (a ++ b) fits kept, word_made t a fits-a kept, word_made t b fits-b kept)
        (ap answered (word-joined t a b))
    go false breaks = rw (word-bad-table t (a ++ b) fits breaks, word-bad-table t a fits-a breaks)

-- of the choice
pub choice-from-joined : (t a b : List ℕ) → length (a ++ b) ≤ max_list →
    choose_from_word t (bit_or (held_word t a) (held_word t b)) ≡ choose t (a ++ b)
choice-from-joined t a b fits = ap (choose_from_word t) (sym (word-joined t a b)) ∙ sym (by_word t (a ++ b) fits)

-- and of the count
pub ones-of-joined : (t a b : List ℕ) → ones (bit_or (held_word t a) (held_word t b)) ≡ held_count t (a ++ b)
ones-of-joined t a b = ap ones (sym (word-joined t a b)) ∙ ones-are-held t (a ++ b)
