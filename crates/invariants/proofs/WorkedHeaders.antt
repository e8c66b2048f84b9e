-- Worked headers, computed from the definitions alone: the datagrams that document 01 writes out, and the limits.
use Prim.Native.Nat.{ℕ, suc, ◌<◌}
use mathlib.Core.Bool.{true, false}
use mathlib.Core.List.{List, [], ◌∷◌, ◌++◌}
use mathlib.Core.Path.{◌≡◌, refl, ap}
use borrow.Author.Tests.{lt-ltb}
use lib.Dec.{lit<}
use lib.ListN.{length, replicate, length-replicate, length-drop}
use Rattle.refusals.specs.Reply.{Reply.answered, refuse}
use Rattle.refusals.specs.declared.Call.TheVariants.{Reading}
use Rattle.lists.specs.Wire.{entries}
use Rattle.invariants.specs.Header.{Form.long, Form.short, Form.version_negotiation, span, is_long, version_of}
use Rattle.invariants.specs.Header.{destination_length, source_length, destination_id, source_id, listed, read_header}
use Rattle.invariants.specs.Limits.{max_datagram}

-- "received `C0 00 00 00 0C 02 AA BB 01 CC FF`"
abbrev pub received : List ℕ
received = 0xc0 ∷ 0 ∷ 0 ∷ 0 ∷ 0x0c ∷ 2 ∷ 0xaa ∷ 0xbb ∷ 1 ∷ 0xcc ∷ 0xff ∷ []

-- A Version Negotiation packet up to its list, with the IDs of "the 22 bytes"
abbrev pub negotiation : List ℕ → List ℕ
negotiation list = 0xc0 ∷ 0 ∷ 0 ∷ 0 ∷ 0 ∷ 1 ∷ 0xcc ∷ 2 ∷ 0xaa ∷ 0xbb ∷ list

-- "the 22 bytes `C0 00 00 00 00 01 CC 02 AA BB 00 00 00 0E 00 00 00 0D 00 00 00 0A`"
abbrev pub sent : List ℕ
sent = negotiation (0 ∷ 0 ∷ 0 ∷ 0x0e ∷ 0 ∷ 0 ∷ 0 ∷ 0x0d ∷ 0 ∷ 0 ∷ 0 ∷ 0x0a ∷ [])

pub record Long : Type 0 where
  pub received-read : read_header received 0 ≡ answered (long 12 (span 6 8) (span 9 10) (span 10 11))
  -- the rest may be empty; each field before it, cut off by one byte, is 12
  pub no-rest : read_header (0xc0 ∷ 0 ∷ 0 ∷ 0 ∷ 0x0c ∷ 2 ∷ 0xaa ∷ 0xbb ∷ 1 ∷ 0xcc ∷ []) 0
      ≡ answered (long 12 (span 6 8) (span 9 10) (span 10 10))
  pub source-cut : read_header (0xc0 ∷ 0 ∷ 0 ∷ 0 ∷ 0x0c ∷ 2 ∷ 0xaa ∷ 0xbb ∷ 1 ∷ []) 0 ≡ refuse Reading 12
  pub source-length-cut : read_header (0xc0 ∷ 0 ∷ 0 ∷ 0 ∷ 0x0c ∷ 2 ∷ 0xaa ∷ 0xbb ∷ []) 0 ≡ refuse Reading 12
  pub destination-cut : read_header (0xc0 ∷ 0 ∷ 0 ∷ 0 ∷ 0x0c ∷ 2 ∷ 0xaa ∷ []) 0 ≡ refuse Reading 12
  pub version-cut : read_header (0xc0 ∷ 0 ∷ 0 ∷ 0 ∷ []) 0 ≡ refuse Reading 12
  -- "the least length is 7"
  pub least : read_header (0x80 ∷ 1 ∷ 2 ∷ 3 ∷ 4 ∷ 0 ∷ 0 ∷ []) 0
      ≡ answered (long 0x01020304 (span 6 6) (span 7 7) (span 7 7))
  -- a long form ignores the told length
  pub told-256 : read_header received 256 ≡ read_header received 0
  -- both IDs of 255 bytes
  pub longest : read_header (0x80 ∷ 0 ∷ 0 ∷ 0 ∷ 1 ∷ 255 ∷ replicate 255 7 ++ 255 ∷ replicate 255 8) 0
      ≡ answered (long 1 (span 6 261) (span 262 517) (span 517 517))

pub record Negotiation : Type 0 where
  pub sent-read : read_header sent 0 ≡ answered (version_negotiation (span 6 7) (span 8 10) (span 10 22))
  -- the IDs that were received, swapped, and the offered table
  pub sent-destination : destination_id sent ≡ source_id received
  pub sent-source : source_id sent ≡ destination_id received
  pub sent-list : listed sent ≡ 14 ∷ 13 ∷ 10 ∷ []
  pub list-empty : read_header (negotiation []) 0 ≡ refuse Reading 13
  pub three-bytes : read_header (negotiation (0 ∷ 0 ∷ 0 ∷ [])) 0 ≡ refuse Reading 13
  pub three-left-over : read_header (negotiation (0 ∷ 0 ∷ 0 ∷ 14 ∷ 0 ∷ 0 ∷ 0 ∷ [])) 0 ≡ refuse Reading 13
  -- "An entry of 0 there is only an entry that no table holds"
  pub entry_zero : read_header (negotiation (0 ∷ 0 ∷ 0 ∷ 0 ∷ [])) 0
      ≡ answered (version_negotiation (span 6 7) (span 8 10) (span 10 14))

pub record Short : Type 0 where
  pub told-0 : read_header (0x7f ∷ 1 ∷ 2 ∷ []) 0 ≡ answered (short (span 1 1) (span 1 3))
  pub told-2 : read_header (0x7f ∷ 1 ∷ 2 ∷ []) 2 ≡ answered (short (span 1 3) (span 3 3))
  pub told-3 : read_header (0x7f ∷ 1 ∷ 2 ∷ []) 3 ≡ refuse Reading 12
  pub told-255 : read_header (0 ∷ replicate 300 9) 255 ≡ answered (short (span 1 256) (span 256 301))
  pub told-256 : read_header (0 ∷ replicate 300 9) 256 ≡ refuse Reading 12

pub record Length : Type 0 where
  pub empty : read_header [] 0 ≡ refuse Reading 12
  pub full : read_header (replicate 65535 64) 8 ≡ answered (short (span 1 9) (span 9 65535))
  pub over : read_header (replicate 65536 64) 8 ≡ refuse Reading 11
  -- "at most 16,382" versions, and the lowest of two refusals
  pub full-list : read_header (0x80 ∷ replicate 65534 0) 0
      ≡ answered (version_negotiation (span 6 6) (span 7 7) (span 7 65535))
  pub over-list : read_header (0x80 ∷ replicate 65535 0) 0 ≡ refuse Reading 11

pub long-headers : Long
unfolding read_header
long-headers =
    record {
      received-read = refl;
      no-rest = refl;
      source-cut = refl;
      source-length-cut = refl;
      destination-cut = refl;
      version-cut = refl;
      least = refl;
      told-256 = refl;
      longest = refl;
    }

pub negotiations : Negotiation
unfolding read_header entries
negotiations =
    record {
      sent-read = refl;
      sent-destination = refl;
      sent-source = refl;
      sent-list = refl;
      list-empty = refl;
      three-bytes = refl;
      three-left-over = refl;
      entry_zero = refl;
    }

pub short-headers : Short
unfolding read_header
short-headers = record { told-0 = refl; told-2 = refl; told-3 = refl; told-255 = refl; told-256 = refl }

-- A datagram of as many bytes as there may be, and one more: read by its length, not byte by byte

reads_over : (d : List ℕ) (told : ℕ) → max_datagram < length d → read_header d told ≡ refuse Reading 11
unfolding read_header
reads_over d told h = rw (lt-ltb _ _ h)

-- A long form that is 0 from its version on
abbrev zeros : ℕ → List ℕ
zeros n = 0x80 ∷ replicate n 0

length-zeros : (n : ℕ) → length (zeros n) ≡ suc n
length-zeros n = ap suc (length-replicate {A = ℕ} n 0)

full-short : (d : List ℕ) → length d ≡ max_datagram → is_long d ≡ false
    → read_header d 8 ≡ answered (short (span 1 9) (span 9 max_datagram))
unfolding read_header
full-short d e l = rw (e, l)

full-negotiation : (d : List ℕ) → length d ≡ max_datagram → is_long d ≡ true → version_of d ≡ 0 → destination_length d ≡ 0
    → source_length d ≡ 0 → read_header d 0 ≡ answered (version_negotiation (span 6 6) (span 7 7) (span 7 max_datagram))
unfolding read_header
full-negotiation d e l v dl sl = rw (e, l, v, sl, dl, length-drop 7 d, e)

one-over : (d : List ℕ) (told : ℕ) → length d ≡ 65536 → read_header d told ≡ refuse Reading 11
one-over d told e = reads_over d told (rw e (lit< tt))

pub lengths : Length
unfolding read_header
lengths =
    record {
      empty = refl;
      full = full-short (replicate 65535 64) (length-replicate {A = ℕ} 65535 64) refl;
      over = one-over (replicate 65536 64) 8 (length-replicate {A = ℕ} 65536 64);
      full-list = full-negotiation (zeros 65534) (length-zeros 65534) refl refl refl refl;
      over-list = one-over (zeros 65535) 0 (length-zeros 65535);
    }
