-- The walk that makes the word of a list, from the last table entry down: before entry i the word so far is that of the
-- entries from i on. One walk for a list of numbers and for one on the wire.
use Prim.Native.Nat.{ℕ, ◌+◌, ◌-◌, ◌*◌, ◌^◌, ◌≤◌, ◌<◌}
use mathlib.Core.Bool.{Bool, true, false}
use mir.Val.{bool_byte}
use mathlib.Core.List.{List}
use mathlib.Core.Path.{◌≡◌, ap, ◌∙◌}
use native.Mathlib.Omega.{arith}
use lib.ListN.{length, drop, get_or, drop_of_length-le}
use Rattle.versions.specs.Table.{elem, table_keeps_rule}
use Rattle.versions.specs.Words.{word_bits, bit, word_where}
use Rattle.versions.proofs.Bits.{word-grown, word_fits}
use Rattle.versions.proofs.Marked.{kept-in-word}
use Rattle.sets.specs.Sets.{held_word}

pub walk_begins : (t l : List ℕ) → 0 ≡ held_word (drop (length t) t) l
unfolding word_where
walk_begins t l = let le : length t ≤ length t = omega arith in rw (drop_of_length-le t le)

pub walk_ends : (t l : List ℕ) (i : ℕ) → i ≤ 0 → held_word (drop i t) l ≡ held_word t l
walk_ends t l i h = let z : i ≡ 0 = omega arith in rw z

-- A test as a number is its bit
pub held-bit : (n : ℕ) (b c : Bool) → n ≡ bool_byte b → b ≡ c → n ≡ bit c
held-bit n true c e h = e ∙ ap bit h
held-bit n false c e h = e ∙ ap bit h

-- A turn of the walk, which comes to the entry before i
pub record Turn (t l : List ℕ) (i word : ℕ) : Type 0 where
  pub kept : table_keeps_rule t ≡ true
  pub not_done : 0 < i
  pub within : i ≤ length t
  pub so_far : word ≡ held_word (drop i t) l

module _ (t l : List ℕ) (i word : ℕ) (turn : Turn t l i word) where
  abbrev next : ℕ
  next = i - 1

  after : word ≡ held_word (drop (next + 1) t) l
  after =
      let p = turn.not_done in
      let e : i ≡ next + 1 = omega (arith, p) in
      turn.so_far ∙ ap (λ (n : ℕ). held_word (drop n t) l) e

  pub in-table : next < length t
  in-table = let p = turn.not_done in let w = turn.within in omega (arith, p, w)

  module _ (b : ℕ) (e : b ≡ bit (elem (get_or t next 0) l)) where
    pub next_word : word * 2 + b ≡ held_word (drop next t) l
    next_word = ap (λ (n : ℕ). word * 2 + n) e ∙ word-grown (λ v. elem v l) t next word after in-table

    pub next_fits : word * 2 + b < 2 ^ word_bits
    next_fits = rw e (word_fits (λ v. elem v l) t next word after in-table word_bits (kept-in-word t turn.kept))
