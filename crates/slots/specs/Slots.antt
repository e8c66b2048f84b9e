-- What the functions of the search promise each other. No public contract cites these definitions.
use Rattle.std.specs.Prelude.{ℕ, ◌*◌, ◌/◌, ◌%◌, ◌^◌, ◌<◌, ◌≤◌, true, false, cond, eqb, List, ◌⊎◌, ◌≡◌, length, get_or}
use Rattle.lists.specs.Wire.{turned}
use Rattle.versions.specs.Table.{elem}
use Rattle.slots.specs.Limits.{slot_count}
use Rattle.slots.specs.declared.rounds.Mark.{Mark}
use Rattle.slots.specs.declared.rounds.Mark.TheVariants.{Absent, Standing}

-- The slot of a word under a factor. Nothing is asked of it but that it is one of the slots, that 0 has the slot 0, and
-- that 1 has another: clashes cost time, and no answer
unfoldable pub slot_of : ℕ → ℕ → ℕ
slot_of word factor = word * factor / 0x100000 % slot_count

-- A factor: 1 has another slot than 0, and no product wraps
abbrev pub IsFactor : ℕ → Type 0
IsFactor factor = (0x100000 ≤ factor) × (factor < 2 ^ 32)

-- What an emptied slot holds: a word that has another slot
abbrev pub filler_of : ℕ → ℕ
filler_of slot = cond (eqb slot 0) 1 0

-- A slot was emptied, and no other changed
pub record Emptied (before after : List ℕ) (slot : ℕ) : Type 0 where
  pub gone : get_or after slot 0 ≡ filler_of slot
  pub others : (i : ℕ) → (i ≡ slot → ⊥) → get_or after i 0 ≡ get_or before i 0
  pub size : length after ≡ length before

-- A word stands in its slot
abbrev pub WordStands : List ℕ → ℕ → ℕ → Type 0
WordStands slots factor word = get_or slots (slot_of word factor) 0 ≡ word

-- A version stands in its slot: its word, which is the version turned, does
abbrev pub Stands : List ℕ → ℕ → ℕ → Type 0
Stands slots factor version = WordStands slots factor (turned version)

-- No version that stands is an entry of the list before the rest of it
abbrev pub Passed : List ℕ → List ℕ → List ℕ → ℕ → Type 0
Passed slots list rest factor = (v : ℕ) → Stands slots factor v → elem v list ≡ elem v rest

-- `rest` is what is left of the list from its first entry on that stands, or empty
pub record FromHit (slots list rest : List ℕ) (factor : ℕ) : Type 0 where
  pub passed : Passed slots list rest factor
  pub shorter : length rest ≤ length list
  pub hit : 0 < length rest → Stands slots factor (get_or rest 0 0)

-- What is known of a version that stood in its slot, once the entries before the rest are looked up. It still stands, and
-- the rest of the list answers for the whole; or its slot was emptied, since the list holds it
abbrev pub Told : List ℕ → List ℕ → List ℕ → ℕ → ℕ → Type 0
Told slots list rest factor v =
    (Stands slots factor v × (elem v list ≡ elem v rest))
    ⊎ ((Stands slots factor v → ⊥) × (elem v list ≡ true))

-- The entries before the rest were looked up in `before`, which became `slots`
abbrev pub Scanned : List ℕ → List ℕ → List ℕ → List ℕ → ℕ → Type 0
Scanned before slots list rest factor = (v : ℕ) → v < 2 ^ 32 → Stands before factor v → Told slots list rest factor v

-- An entry of the table that is marked `Absent` is not in the list; any other is not judged yet
abbrev pub AbsentNotHeld : List ℕ → List ℕ → List Mark → Type 0
AbsentNotHeld table list marks =
    (k : ℕ) → k < length table → get_or marks k Absent ≡ Absent → elem (get_or table k 0) list ≡ false

-- Each entry that is marked `Standing` stands in its slot
abbrev pub Marked : List ℕ → List ℕ → List Mark → ℕ → Type 0
Marked table slots marks factor =
    (k : ℕ) → k < length table → get_or marks k Absent ≡ Standing → Stands slots factor (get_or table k 0)

-- The entries that are marked `Standing` are told
abbrev pub MarkedTold : List ℕ → List ℕ → List ℕ → List ℕ → List Mark → ℕ → Type 0
MarkedTold table list rest slots marks factor =
    (k : ℕ) → k < length table → get_or marks k Absent ≡ Standing → get_or table k 0 < 2 ^ 32
    → Told slots list rest factor (get_or table k 0)
