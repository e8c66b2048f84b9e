-- The choice along the code of the second way: from a list to its word, and from a word to the entry at its lowest set
-- place.
use Prim.Native.Nat.{ℕ, ◌/◌, ◌≤◌, ◌<◌}
use mathlib.Core.Bool.{Bool, true, false, not, cond, ◌&&◌, and-true}
use mathlib.Core.List.{List, [], ◌∷◌}
use Rattle.std.specs.Prelude.{Option, None, Some, Result, Ok, Err, IsErrAnd}
use mathlib.Core.Path.{◌≡◌, refl, sym, ap, ◌∙◌}
use native.Mathlib.Nat.{lt_of_lt_of_le}
use lib.Count.{ones, count_trailing_zeros}
use lib.Dec.{ltb, leb}
use lib.ListN.{length, get_or}
use borrow.Author.Tests.{eq-eqb, ltb-false, leb-true, leb-false, not-true, not-false}
use Rattle.refusals.specs.Reply.{Reply, Reply.answered, refuse, read_reply}
use Rattle.refusals.specs.declared.Refusal.{Refusal}
use Rattle.refusals.specs.Rule.{clear, judged}
use Rattle.refusals.specs.declared.Call.TheVariants.{Reading}
use Rattle.refusals.proofs.Rules.{both_true, lowest-clear, lowest-number, answered-clear, answered-injective}
use Rattle.versions.specs.Table.{elem, entries_keep_rule, table_keeps_rule}
use Rattle.versions.specs.Words.{word_bits, bit_at, keep_if, members}
use Rattle.versions.proofs.Bits.{ones-where}
use Rattle.versions.proofs.Lists.{table-entries}
use Rattle.versions.proofs.Marked.{once, kept-in-word}
use Rattle.versions.proofs.Members.{members-where, elem-where, members-held, members-first, members-none}
use Rattle.lists.specs.Limits.{max_list}
use Rattle.lists.specs.Wire.{entry_at}
use Rattle.lists.proofs.Entries.{entry_at-there, entry_at-past}
use Rattle.choosing.specs.Choice.{choice_rules, or_nothing_in_common, preferred, choose}
use Rattle.choosing.specs.Laws.{SameHeld}
use Rattle.choosing.proofs.Judged.{judged-too-long, judged-bad-table, judged-clear}
use Rattle.choosing.proofs.Laws.{choose-preferred, preferred-by-membership}
use Rattle.sets.specs.Sets.{held_word, held_count, list_word, count_held}

-- The members of a list's word are the table entries that the list holds
same-held : (t l : List ℕ) → SameHeld t l (members (held_word t l) t)
same-held t l v in_table =
    rw (members-where (λ v. elem v l) t, elem-where (λ v. elem v l) t v, in_table) (sym (and-true (elem v l)))

-- so the same is preferred
pub preferred-by-word : (t l : List ℕ) → preferred t l ≡ preferred t (members (held_word t l) t)
preferred-by-word t l = preferred-by-membership t l (members (held_word t l) t) (same-held t l)

-- The most preferred member is the first

first : List ℕ → Option ℕ
first [] = None
first (v ∷ vs) = Some v

-- a list that holds nothing
preferred-empty : (t : List ℕ) → preferred t [] ≡ None
unfolding preferred elem
preferred-empty [] = refl
preferred-empty (v ∷ t) = preferred-empty t

preferred-members : (t : List ℕ) (w : ℕ) → entries_keep_rule t ≡ true → preferred t (members w t) ≡ first (members w t)
unfolding preferred members first elem
preferred-members [] w k = refl
preferred-members (v ∷ t) w k =
    let entries = once v t k in
    go (bit_at w 0) (absent (elem v rest) refl entries.0) (preferred-members t (w / 2) entries.1)
  where
    rest : List ℕ
    rest = members (w / 2) t

    -- an entry stands once, so it is no member of the rest
    absent : (b : Bool) → elem v rest ≡ b → elem v t ≡ false → b ≡ false
    absent true e once = sym (members-held (w / 2) t v e) ∙ once
    absent false e once = refl

    go : (b : Bool) → elem v rest ≡ false → preferred t rest ≡ first rest →
        cond (elem v (keep_if b v rest)) (Some v) (preferred t (keep_if b v rest)) ≡ first (keep_if b v rest)
    go true e ih = rw (eq-eqb v v refl)
    go false e ih = rw e ih

-- The entry at the lowest set place of a word; or no entry is there
module _ (t : List ℕ) (w : ℕ) (kept : table_keeps_rule t ≡ true) where
  pub lowest-there : count_trailing_zeros word_bits w < length t → preferred t (members w t) ≡ Some (get_or t (count_trailing_zeros word_bits w) 0)
  unfolding first
  lowest-there h =
      preferred-members t w (table-entries t kept) ∙ ap first (members-first word_bits w t (lt_of_lt_of_le h (kept-in-word t kept)) h)

  pub lowest-past : length t ≤ count_trailing_zeros word_bits w → preferred t (members w t) ≡ None
  lowest-past h = ap (preferred t) (members-none word_bits w t h) ∙ preferred-empty t

-- "the most preferred member is the lowest set place of the word". Of any word: the table entry there, and none where that
-- place is past the table
pub lowest-member : (t : List ℕ) (w : ℕ) → table_keeps_rule t ≡ true →
    entry_at t (count_trailing_zeros word_bits w) ≡ preferred t (members w t)
lowest-member t w kept = go (leb (length t) place) refl
  where
    place : ℕ
    place = count_trailing_zeros word_bits w

    go : (b : Bool) → leb (length t) place ≡ b → entry_at t place ≡ preferred t (members w t)
    go true e =
        let past = leb-true (length t) place e in
        entry_at-past t place past ∙ sym (lowest-past t w kept past)
    go false e =
        let there = leb-false (length t) place e in
        entry_at-there t place there ∙ sym (lowest-there t w kept there)

-- The word of a list: its refusals in order, then the word
module _ (t l : List ℕ) where
  pub word-too-long : max_list < length l → list_word t l ≡ refuse Reading 40
  unfolding list_word
  word-too-long = judged-too-long t l (answered (held_word t l))

  pub word-bad-table : length l ≤ max_list → table_keeps_rule t ≡ false → list_word t l ≡ refuse Reading 41
  unfolding list_word
  word-bad-table = judged-bad-table t l (answered (held_word t l))

  pub word_made : length l ≤ max_list → table_keeps_rule t ≡ true → list_word t l ≡ answered (held_word t l)
  unfolding list_word
  word_made = judged-clear t l (answered (held_word t l))

-- What `?` hands back of a refusal
pub handed-back : {A : Type 0} (r : Result A Refusal) (e : Refusal) → IsErrAnd r (λ x. x ≡ e) → read_reply r ≡ refuse Reading e.0
handed-back (Ok a) e h = absurd h
handed-back (Err x) e h = ap (λ (x : Refusal). refuse Reading x.0) h

-- What `judge` answered tells of the table and the list
module _ (t l : List ℕ) where
  -- refused: whatever was to be answered is refused with the same number
  pub judge-refused : {B : Type 0} (other : Reply B) (n : ℕ) → refuse Reading n ≡ judged Reading (choice_rules t l) (answered t) →
      refuse Reading n ≡ judged Reading (choice_rules t l) other
  judge-refused other n e = lowest-number Reading t n (refuse Reading) other (choice_rules t l) e

  -- answered: neither 40 nor 41 applies, and it is the table
  module _ (x : List ℕ) (e : answered x ≡ judged Reading (choice_rules t l) (answered t)) where
    none-applies : clear (choice_rules t l) ≡ true
    none-applies = answered-clear Reading t x (choice_rules t l) e

    table-is : x ≡ t
    table-is = answered-injective x t (e ∙ lowest-clear (refuse Reading) (answered t) (choice_rules t l) none-applies)

    answers : {B : Type 0} (other : Reply B) → other ≡ judged Reading (choice_rules t l) other
    answers other = sym (lowest-clear (refuse Reading) other (choice_rules t l) none-applies)

    within : length l ≤ max_list
    within = ltb-false _ _ (not-true _ (both_true _ _ none-applies).0)

    table_kept : table_keeps_rule t ≡ true
    table_kept =
        let rest = (both_true (not (ltb max_list (length l))) (not (not (table_keeps_rule t)) && true) none-applies).1 in
        not-false (table_keeps_rule t) (not-true (not (table_keeps_rule t)) (both_true _ true rest).0)

    pub word-made : answered (held_word x l) ≡ list_word t l
    unfolding list_word
    word-made = rw table-is (answers (answered (held_word t l)))

    pub chosen-by-word : or_nothing_in_common (preferred x (members (held_word x l) x)) ≡ choose t l
    chosen-by-word = rw (table-is, ← preferred-by-word t l, choose-preferred t l table_kept within)

    pub counted-by-word : answered (ones (held_word x l)) ≡ count_held t l
    unfolding count_held
    counted-by-word =
        rw table-is
        (ap answered (ones-where (λ v. elem v l) t) ∙ answers (answered (held_count t l)))
