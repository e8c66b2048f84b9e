-- Document 02, C-11: "37 is `25`, but `40 25` is read as 37 too; 15293 is `7B BD`". RFC 9000 section A.1 has the two
-- longer ones. Each is computed from the definitions alone, and so are the borders of the four widths.
use Prim.Native.Nat.{ℕ, ◌-◌, ◌^◌}
use mathlib.Core.List.{List, [], ◌∷◌}
use mathlib.Core.Path.{◌≡◌, refl}
use Rattle.refusals.specs.Reply.{Reply.answered, refuse}
use Rattle.refusals.specs.declared.Call.TheVariants.{Reading, Writing}
use Rattle.integers.specs.Integers.{from_bytes, held_below, integer_bytes, integer_to_write, low_bytes, read_integer, shortest, shortest_bytes, shortest_width, value_at, width_of}

-- So many bytes are read as this integer
abbrev reads : List ℕ → ℕ → ℕ → Type 0
reads bytes v w = read_integer bytes ≡ answered (record { value = v; width = w })

pub record Examples : Type 0 where
  pub one_byte : reads (0x25 ∷ []) 37 1
  pub two-bytes-of-37 : reads (0x40 ∷ 0x25 ∷ []) 37 2
  pub two_bytes : reads (0x7b ∷ 0xbd ∷ []) 15293 2
  pub four_bytes : reads (0x9d ∷ 0x7f ∷ 0x3e ∷ 0x7d ∷ []) 494878333 4
  pub eight-bytes : reads (0xc2 ∷ 0x19 ∷ 0x7c ∷ 0x5e ∷ 0xff ∷ 0x14 ∷ 0xe8 ∷ 0x8c ∷ []) 151288809941952652 8
  pub what-follows : reads (0x25 ∷ 0xff ∷ []) 37 1
  pub nothing : read_integer [] ≡ refuse Reading 81
  pub cut : read_integer (0x7b ∷ []) ≡ refuse Reading 81
  pub written-37 : integer_to_write 37 1 ≡ answered (0x25 ∷ [])
  pub written-15293 : integer_to_write 15293 2 ≡ answered (0x7b ∷ 0xbd ∷ [])
  pub no_room : integer_to_write 15293 1 ≡ refuse Writing 84
  pub too_large : integer_to_write (2 ^ 62) 0 ≡ refuse Writing 83

pub examples : Examples
unfolding read_integer value_at from_bytes width_of integer_to_write shortest shortest_bytes shortest_width integer_bytes low_bytes held_below
examples = record {
  one_byte = refl;
  two-bytes-of-37 = refl;
  two_bytes = refl;
  four_bytes = refl;
  eight-bytes = refl;
  what-follows = refl;
  nothing = refl;
  cut = refl;
  written-37 = refl;
  written-15293 = refl;
  no_room = refl;
  too_large = refl;
}

-- On either side of each border, and the largest
pub record Borders : Type 0 where
  pub w63 : shortest_width 63 ≡ 1
  pub w64 : shortest_width 64 ≡ 2
  pub w16383 : shortest_width 16383 ≡ 2
  pub w16384 : shortest_width 16384 ≡ 4
  pub w-4 : shortest_width (2 ^ 30 - 1) ≡ 4
  pub w-8 : shortest_width (2 ^ 30) ≡ 8
  pub largest : integer_to_write (2 ^ 62 - 1) 8 ≡ answered (255 ∷ 255 ∷ 255 ∷ 255 ∷ 255 ∷ 255 ∷ 255 ∷ 255 ∷ [])

pub borders : Borders
unfolding integer_to_write shortest shortest_bytes shortest_width integer_bytes low_bytes held_below width_of
borders = record {
  w63 = refl;
  w64 = refl;
  w16383 = refl;
  w16384 = refl;
  w-4 = refl;
  w-8 = refl;
  largest = refl;
}
