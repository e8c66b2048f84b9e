-- The words of the laws of a sequence: what is written is read, what it says stays, and the shortest form.
use Rattle.std.specs.Prelude.{ℕ, ◌+◌, ◌-◌, ◌≤◌, Bool, true, cond, ◌&&◌, List, [], ◌∷◌, ◌++◌, ◌≡◌, eqb, length}
use Rattle.std.specs.Prelude.{Some}
use Rattle.refusals.specs.Reply.{Reply.answered}
use Rattle.versions.specs.Table.{elem}
use Rattle.integers.specs.Integers.{shortest_width}
use Rattle.integers.specs.Limits.{max_integer}
use Rattle.lists.specs.declared.Span.{Span}
use Rattle.parameters.specs.Limits.{version_information}
use Rattle.parameters.specs.Sequence.{Field, bytes_in, fields_of, ids_of}
use Rattle.parameters.specs.Reading.{fields_in, read_parameters}
use Rattle.parameters.specs.Writing.{Content, contents_of, is_ours, sequence_bytes}

-- Identifiers and lengths that can be written: RFC 9000 section 16 has none over 2^62 - 1
abbrev pub Writable : List Content → Type 0
Writable [] = Unit
Writable (p ∷ ps) = (p.id ≤ max_integer) × (length p.value ≤ max_integer) × Writable ps

-- Where a parameter lies that is written at a place
abbrev pub placed_at : ℕ → Content → Field
placed_at at p =
    let start : ℕ = at + shortest_width p.id + shortest_width (length p.value) in
    record { id = p.id; value = record { start = start; end = start + length p.value } }

-- Where parameters lie that are written one behind the other, from a place on
unfoldable pub placed : ℕ → List Content → List Field
placed at [] = []
placed at (p ∷ ps) = placed_at at p ∷ placed (placed_at at p).value.end ps

-- The reader reads a sequence, and finds our parameter there with this value
pub record Carries (s value : List ℕ) : Type 0 where
  pub place : Span
  pub reads : read_parameters s ≡ answered (Some place)
  pub same : bytes_in s place ≡ value

-- The parameters but ours, in their order
unfoldable pub others : List Content → List Content
others [] = []
others (p ∷ ps) = cond (is_ours p) (others ps) (p ∷ others ps)

-- The identifiers of a sequence, in their order
abbrev pub identifiers : List ℕ → List ℕ
identifiers s = ids_of (fields_in (fields_of s))

-- Identifiers with ours: last, where it is missing
abbrev pub with_ours : List ℕ → List ℕ
with_ours ids = cond (elem version_information ids) ids (ids ++ (version_information ∷ []))

-- What a sequence says, with every identifier and every length in the shortest form
abbrev pub shortest_form : List ℕ → List ℕ
shortest_form s = sequence_bytes (contents_of s)

-- From a place on, each value begins right behind its identifier and its length in their shortest widths
unfoldable pub shortest_from : ℕ → List Field → Bool
shortest_from at [] = true
shortest_from at (f ∷ fs) =
    eqb f.value.start (at + shortest_width f.id + shortest_width (f.value.end - f.value.start))
    && shortest_from f.value.end fs

-- Every identifier and every length of a sequence is in the shortest form
abbrev pub in_shortest_form : List ℕ → Bool
in_shortest_form s = shortest_from 0 (fields_in (fields_of s))
