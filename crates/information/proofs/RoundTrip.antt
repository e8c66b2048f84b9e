-- Version Information there and back, for one and the same sender: what is written is read, what is read is written
-- again as the same bytes, and equal values have equal bytes.
use Prim.Native.Nat.{ℕ, ◌+◌, ◌/◌, ◌^◌, ◌<◌, ◌≤◌}
use mathlib.Core.Bool.{true}
use mathlib.Core.List.{List}
use mathlib.Core.Path.{◌≡◌, sym, ap, ◌∙◌}
use native.Mathlib.Omega.{arith}
use lib.ListN.{length, drop, length-drop}
use Rattle.refusals.specs.Reply.{Reply.answered}
use Rattle.lists.specs.Wire.{all_below, entries, list_bytes, version_bytes}
use Rattle.lists.proofs.Entries.{entries-list_bytes, entries-step, length-entries, list_bytes-entries, number-bytes_of}
use Rattle.versions.proofs.Lists.{part-rest}
use Rattle.information.specs.Information.{Found, chosen_of, available_of, found_in, versions_in, read_information, information_bytes, information_to_write}
use Rattle.information.specs.Laws.{ReadAs}
use Rattle.information.specs.Limits.{max_information}
use Rattle.information.specs.declared.Sender.{Sender}
use Rattle.information.proofs.Bytes.{length-information}
use Rattle.information.proofs.Kept.{ReadKept, read_kept, read-answers, write_kept, write-answers}

-- The versions where the reader finds them are all that lies behind the Chosen Version
versions-found : (bytes : List ℕ) → versions_in bytes (found_in bytes).available ≡ available_of bytes
versions-found bytes = ap entries (part-rest bytes version_bytes)

-- Bytes that keep the reader's rules are the bytes of what is read in them
bytes-again : {sender : Sender} {bytes : List ℕ} → ReadKept sender bytes → all_below 256 bytes ≡ true
    → information_bytes (chosen_of bytes) (available_of bytes) ≡ bytes
unfolding list_bytes
bytes-again {sender} {bytes} kept below =
    ap list_bytes (sym (entries-step bytes 0 kept.least)) ∙ list_bytes-entries bytes kept.fours below

-- What is written is read: the same Chosen Version and the same Available Versions, in their order
pub written_read : (sender : Sender) (chosen : ℕ) (available : List ℕ) (room : ℕ) (bytes : List ℕ)
    → chosen < 2 ^ 32 → all_below (2 ^ 32) available ≡ true
    → information_to_write sender chosen available room ≡ answered bytes
    → ReadAs sender bytes chosen available
written_read sender chosen available room bytes chosen-below below e =
    let written = write_kept sender chosen available room bytes e in
    let long = length-information chosen available in
    let same_chosen : chosen_of (information_bytes chosen available) ≡ chosen = number-bytes_of chosen chosen-below in
    let same-available : available_of (information_bytes chosen available) ≡ available = entries-list_bytes available below in
    let kept : ReadKept sender (information_bytes chosen available) = record {
      least = omega arith;
      fours = omega arith;
      most = omega arith;
      others = rw (same_chosen, same-available) written.0.others;
    } in
    rw (← written.1) (record {
      found = found_in (information_bytes chosen available);
      reads = read-answers sender (information_bytes chosen available) kept;
      same_chosen = same_chosen;
      same-available = versions-found (information_bytes chosen available) ∙ same-available;
    })

-- What is read is written again, into every buffer with room for it, and as the same bytes
pub read-written : (sender : Sender) (bytes : List ℕ) (found : Found) (room : ℕ)
    → all_below 256 bytes ≡ true → length bytes ≤ room
    → read_information sender bytes ≡ answered found
    → information_to_write sender found.chosen (versions_in bytes found.available) room ≡ answered bytes
read-written sender bytes found room below fits e =
    let read = read_kept sender bytes found e in
    let kept = read.0 in
    let count : length (available_of bytes) ≡ length (drop version_bytes bytes) / version_bytes = length-entries (drop version_bytes bytes) in
    let behind : length (drop version_bytes bytes) + version_bytes ≡ length bytes = rw (length-drop version_bytes bytes) (omega arith) in
    let again = write-answers sender (chosen_of bytes) (available_of bytes) room (record {
      few = omega arith;
      others = kept.others;
      fits = omega arith;
    }) in
    rw (← read.1, versions-found bytes) (again ∙ ap answered (bytes-again kept below))

-- Equal values have equal bytes, whoever sent them
pub equal-bytes : (sender other : Sender) (a b : List ℕ) (chosen : ℕ) (available : List ℕ)
    → all_below 256 a ≡ true → all_below 256 b ≡ true
    → ReadAs sender a chosen available → ReadAs other b chosen available → a ≡ b
equal-bytes sender other a b chosen available below-a below-b read_a read-b =
    sym (its-bytes sender a below-a read_a) ∙ its-bytes other b below-b read-b
  where
    its-bytes : (from : Sender) (bytes : List ℕ) → all_below 256 bytes ≡ true → ReadAs from bytes chosen available
        → information_bytes chosen available ≡ bytes
    its-bytes from bytes below read =
        let p = read_kept from bytes read.found read.reads in
        let c : chosen_of bytes ≡ chosen = ap (λ (f : Found). f.chosen) p.1 ∙ read.same_chosen in
        let v : available_of bytes ≡ available =
        sym (versions-found bytes) ∙ ap (λ (f : Found). versions_in bytes f.available) p.1 ∙ read.same-available in
        rw (← c, ← v) (bytes-again p.0 below)

-- What is written has at most 1,024 bytes
pub information-at-most : (sender : Sender) (chosen : ℕ) (available : List ℕ) (room : ℕ) (bytes : List ℕ)
    → information_to_write sender chosen available room ≡ answered bytes → length bytes ≤ max_information
information-at-most sender chosen available room bytes e =
    let written = write_kept sender chosen available room bytes e in
    rw (← written.1) (omega (arith, length-information chosen available))
