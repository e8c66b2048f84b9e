-- Sets as one word. Document 02, C-15: "Each place of the table is a bit; a list becomes a word of 64 bits; the most
-- preferred member is the lowest set place of the word, and its count of ones is how many table entries the list holds."
use Rattle.std.specs.Prelude.{ℕ, not, List, [], ◌∷◌, length}
use Rattle.std.specs.Int.Bits.{bit_or}
use Rattle.refusals.specs.Reply.{Reply, Reply.refused, Reply.answered}
use Rattle.refusals.specs.Rule.{Rule, Rule.◌when◌, judged}
use Rattle.refusals.specs.declared.Call.TheVariants.{Reading}
use Rattle.versions.specs.Table.{elem, table_keeps_rule}
use Rattle.versions.specs.Words.{entries_where, word_where, members}
use Rattle.choosing.specs.Choice.{choice_rules, or_nothing_in_common, preferred}

-- "a list becomes a word": bit j tells whether table entry j occurs in the list
abbrev pub held_word : List ℕ → List ℕ → ℕ
held_word table list = word_where (λ v. elem v list) table

-- "how many table entries the list holds": those that occur in it, each counted once
abbrev pub held_count : List ℕ → List ℕ → ℕ
held_count table list = length (entries_where (λ v. elem v list) table)

-- The two calls. 40 and 41 come first, as in the choice; nothing in common is the word 0, and the count 0
unfoldable pub list_word : List ℕ → List ℕ → Reply ℕ
list_word table list = judged Reading (choice_rules table list) (answered (held_word table list))

unfoldable pub count_held : List ℕ → List ℕ → Reply ℕ
count_held table list = judged Reading (choice_rules table list) (answered (held_count table list))

-- The choice from a word, of whatever origin: the most preferred of its members. A bit at or past the table's length is
-- that of no entry, so it changes nothing. 41, then 42; there is no list, and no 40
abbrev pub word_rules : List ℕ → List Rule
word_rules table = (41 when not (table_keeps_rule table)) ∷ []

unfoldable pub choose_from_word : List ℕ → ℕ → Reply ℕ
choose_from_word table word = judged Reading (word_rules table) (or_nothing_in_common (preferred table (members word table)))

-- "Joining lists is joining words": the bitwise or, where both calls answered; else what the first refused with, or the
-- second
abbrev pub joined : Reply ℕ → Reply ℕ → Reply ℕ
joined (refused n c) b = refused n c
joined (answered a) (refused n c) = refused n c
joined (answered a) (answered b) = answered (bit_or a b)
