-- Worked sequences of document 02, C-11, each computed from the definitions alone.
use Prim.Native.Nat.{ℕ, zero, suc, ◌+◌}
use mathlib.Core.List.{List, [], ◌∷◌, ◌++◌}
use Rattle.std.specs.Prelude.{None, Some}
use mathlib.Core.Path.{◌≡◌, refl}
use Rattle.refusals.specs.Reply.{Reply.answered, refuse}
use Rattle.refusals.specs.declared.Call.TheVariants.{Reading, Writing}
use Rattle.versions.specs.Table.{elem}
use Rattle.integers.specs.Integers.{from_bytes, held_below, integer_bytes, low_bytes, read_integer, shortest, shortest_bytes, value_at, width_of}
use Rattle.parameters.specs.Reading.{carried, read_parameters}
use Rattle.parameters.specs.Sequence.{behind_id, field_at, fields_from, fields_of, ids_of, repeats}
use Rattle.parameters.specs.Writing.{carrying, contents_in, holds_ours, parameters_to_write, renewed, sequence_bytes}

-- Distinct parameters of two bytes: identifiers from n - 1 down to 0, no value
abbrev pub many : ℕ → List ℕ
many zero = []
many (suc n) = n ∷ 0 ∷ many n

-- Identifier 1 with value AA, then ours with value BB CC, then identifier 5, whose forms are not the shortest
abbrev three : List ℕ
three = 1 ∷ 1 ∷ 0xaa ∷ 0x11 ∷ 2 ∷ 0xbb ∷ 0xcc ∷ 0x40 ∷ 5 ∷ 0x40 ∷ 1 ∷ 0xdd ∷ []

-- `three` is 1 with value AA, ours with value BB CC, 5 with value DD
pub record Readings : Type 0 where
  pub empty : read_parameters [] ≡ answered None
  pub found : read_parameters three ≡ answered (Some (record { start = 5; end = 7 }))
  pub missing : read_parameters (1 ∷ 0 ∷ []) ≡ answered None
  pub cut : read_parameters (1 ∷ 0 ∷ 0x11 ∷ 1 ∷ []) ≡ refuse Reading 81
  pub cut-with-repeat : read_parameters (1 ∷ 0 ∷ 1 ∷ 0 ∷ 2 ∷ []) ≡ refuse Reading 81
  pub same-identifier : read_parameters (5 ∷ 0 ∷ 0x40 ∷ 5 ∷ 0 ∷ []) ≡ refuse Reading 82
  pub sixty-four : read_parameters (many 64) ≡ answered (Some (record { start = 94; end = 94 }))
  pub sixty-five : read_parameters (many 64 ++ (0x40 ∷ 0x40 ∷ 0 ∷ [])) ≡ refuse Reading 85
  pub repeat-among-many : read_parameters (many 64 ++ (0x40 ∷ 0x40 ∷ 0 ∷ 7 ∷ 0 ∷ [])) ≡ refuse Reading 82
  pub cut-among-many : read_parameters (many 64 ++ (0x40 ∷ 0x40 ∷ 0 ∷ 7 ∷ 0 ∷ 8 ∷ [])) ≡ refuse Reading 81

pub readings : Readings
unfolding read_parameters fields_of fields_from field_at behind_id read_integer value_at from_bytes width_of ids_of repeats elem carried
readings = record {
  empty = refl;
  found = refl;
  missing = refl;
  cut = refl;
  cut-with-repeat = refl;
  same-identifier = refl;
  sixty-four = refl;
  sixty-five = refl;
  repeat-among-many = refl;
  cut-among-many = refl;
}

-- Distinct parameters of three bytes without ours: identifiers from 64 on, no value
abbrev pub large : ℕ → List ℕ
large zero = []
large (suc n) = 0x40 ∷ (64 + n) ∷ 0 ∷ large n

pub record Writings : Type 0 where
  pub replaced : parameters_to_write three (0xee ∷ []) 9 ≡ answered (1 ∷ 1 ∷ 0xaa ∷ 0x11 ∷ 1 ∷ 0xee ∷ 5 ∷ 1 ∷ 0xdd ∷ [])
  pub last : parameters_to_write (0x40 ∷ 5 ∷ 0 ∷ []) (0xee ∷ []) 5 ≡ answered (5 ∷ 0 ∷ 0x11 ∷ 1 ∷ 0xee ∷ [])
  pub no_room : parameters_to_write (0x40 ∷ 5 ∷ 0 ∷ []) (0xee ∷ []) 4 ≡ refuse Writing 84
  pub of-the-old : parameters_to_write (5 ∷ 0 ∷ 5 ∷ 0 ∷ []) [] 0 ≡ refuse Writing 82
  pub sixty-four-again : parameters_to_write (many 64) [] 128 ≡ answered (many 64)
  pub one-too-many : parameters_to_write (large 64) [] 194 ≡ refuse Writing 85
  pub no-room-first : parameters_to_write (large 64) [] 193 ≡ refuse Writing 84

pub writings : Writings
unfolding parameters_to_write fields_of fields_from field_at behind_id read_integer value_at from_bytes width_of ids_of repeats elem
    carrying contents_in holds_ours renewed sequence_bytes shortest_bytes shortest integer_bytes low_bytes held_below
writings = record {
  replaced = refl;
  last = refl;
  no_room = refl;
  of-the-old = refl;
  sixty-four-again = refl;
  one-too-many = refl;
  no-room-first = refl;
}
