-- Worked lengths of document 01, "Information of 0 or 3 bytes: 31; 5: 32; 1,024: read; 1,026: 32; 1,028: 33". Each is
-- computed from the definitions alone. Every byte is 1, so that no version is 0 and the Chosen Version is available.
use Prim.Native.Nat.{ℕ}
use mathlib.Core.Path.{◌≡◌, refl}
use lib.ListN.{replicate}
use Rattle.refusals.specs.Reply.{Reply, Reply.answered, refuse}
use Rattle.refusals.specs.declared.Call.TheVariants.{Reading}
use Rattle.versions.specs.Table.{elem}
use Rattle.lists.specs.Wire.{entries}
use Rattle.information.specs.Information.{Found, read_information}
use Rattle.information.specs.declared.Sender.TheVariants.{Client}

-- So many bytes, from a client
abbrev read : ℕ → Reply Found
read count = read_information Client (replicate count 1)

pub record Lengths : Type 0 where
  pub none : read 0 ≡ refuse Reading 31
  pub three : read 3 ≡ refuse Reading 31
  pub five : read 5 ≡ refuse Reading 32
  pub most : read 1024 ≡ answered (record { chosen = 0x01010101; available = record { start = 4; end = 1024 } })
  pub two-over : read 1026 ≡ refuse Reading 32
  pub four-over : read 1028 ≡ refuse Reading 33

pub lengths : Lengths
unfolding read_information elem entries
lengths = record { none = refl; three = refl; five = refl; most = refl; two-over = refl; four-over = refl }
