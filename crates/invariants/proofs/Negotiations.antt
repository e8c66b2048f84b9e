-- Version Negotiation packets as the header reader answers them: which datagrams they are, where their parts lie,
-- and how long their list is. A long form ignores the told length.
use Prim.Native.Nat.{ℕ, ◌+◌, ◌*◌, ◌%◌, ◌<◌, ◌≤◌}
use mathlib.Core.Bool.{Bool, true, false, cond, not, ◌&&◌}
use mathlib.Core.List.{List}
use mathlib.Core.Path.{◌≡◌, refl, sym, ◌∙◌, ap}
use native.Mathlib.Omega.{arith}
use borrow.Author.Tests.{ltb-false, eqb-true, eqb-false, not-true, not-false}
use lib.Dec.{eqb, ltb}
use lib.ListN.{length, length-drop}
use Rattle.std.specs.Prelude.{Result, Ok}
use Rattle.refusals.specs.Reply.{Reply, Reply.refused, Reply.answered, refuse}
use Rattle.refusals.specs.Rule.{clear}
use Rattle.refusals.specs.declared.Call.TheVariants.{Reading}
use Rattle.refusals.specs.declared.Refusal.{Refusal}
use Rattle.refusals.proofs.Rules.{both_true, neither, lowest-clear, lowest-applies}
use Rattle.lists.specs.Limits.{max_list}
use Rattle.lists.specs.Wire.{version_bytes}
use Rattle.lists.specs.declared.Span.{Span}
use Rattle.lists.proofs.Entries.{length-entries}
use Rattle.invariants.specs.Header.{Form, Form.long, Form.short, Form.version_negotiation, is_long, version_of}
use Rattle.invariants.specs.Header.{destination_length, source_start, rest_start, rest_of, listed, span}
use Rattle.invariants.specs.Header.{long_truncated, short_truncated, truncated, not_whole, header_rules}
use Rattle.invariants.specs.Header.{form_of, read_header, header_reply, is_version_negotiation, is_readable_negotiation}
use Rattle.invariants.specs.Limits.{max_datagram}
use Rattle.invariants.specs.Parts.{Parts}
use Rattle.invariants.specs.declared.Header.{Header}
use Rattle.invariants.specs.declared.Header.TheVariants.{VersionNegotiation}

-- The reader answered a Version Negotiation packet
abbrev pub negotiation_in : Reply Form → Bool
negotiation_in (refused n c) = false
negotiation_in (answered (long v d s r)) = false
negotiation_in (answered (short d r)) = false
negotiation_in (answered (version_negotiation d s l)) = true

-- Document 01: "its length, 0 to 255, is told by the caller" is said of the short form alone
pub told-ignored : (d : List ℕ) (told told' : ℕ) → is_long d ≡ true → read_header d told ≡ read_header d told'
unfolding read_header
told-ignored d told told' e = rw e

-- The form is Version Negotiation where the first byte and the version say so
form-negotiation : (d : List ℕ) (told : ℕ) (is_long' is_zero : Bool) → is_long d ≡ is_long' → eqb (version_of d) 0 ≡ is_zero
    → negotiation_in (answered (form_of d told)) ≡ (is_long' && is_zero)
form-negotiation d told true true e z = rw (e, z)
form-negotiation d told true false e z = rw (e, z)
form-negotiation d told false z e _ = rw e

read-by-clear : (d : List ℕ) (is_clear : Bool) → clear (header_rules d 0) ≡ is_clear
    → (is_clear && is_version_negotiation d) ≡ negotiation_in (read_header d 0)
unfolding read_header
read-by-clear d true e =
    rw (lowest-clear (refuse Reading) (answered (form_of d 0)) (header_rules d 0) e)
    (sym (form-negotiation d 0 (is_long d) (eqb (version_of d) 0) refl refl))
read-by-clear d false e =
    sym
    (lowest-applies (refuse Reading) (answered (form_of d 0)) (λ (r : Reply Form). negotiation_in r ≡ false) (λ n. refl)
    (header_rules d 0) e)

-- A datagram is a readable Version Negotiation packet exactly where the reader answers one
pub readable-is-read : (d : List ℕ) → is_readable_negotiation d ≡ negotiation_in (read_header d 0)
unfolding is_readable_negotiation
readable-is-read d = read-by-clear d (clear (header_rules d 0)) refl

-- The same for an answer of `read_header`: false for each result but `Ok` of a `VersionNegotiation`
pub readable-by-reply : (d : List ℕ) (r : Result Header Refusal) → header_reply r ≡ read_header d 0
    → is_readable_negotiation d ≡ negotiation_in (header_reply r)
readable-by-reply d r e = readable-is-read d ∙ ap negotiation_in (sym e)

-- The form of a Version Negotiation packet, with where its parts lie
abbrev pub negotiation_of : List ℕ → Form
negotiation_of d =
    version_negotiation (span 6 (6 + destination_length d)) (span (source_start d) (rest_start d))
    (span (rest_start d) (length d))

-- What is known of a datagram that is a readable Version Negotiation packet
pub record Readable (d : List ℕ) : Type 0 where
  -- what the reader answers, whatever the told length
  pub reads : (told : ℕ) → read_header d told ≡ answered (negotiation_of d)
  pub fits : length d ≤ max_datagram
  -- no field runs past the end
  pub within : rest_start d ≤ length d
  -- "The rest is one or more versions of 4 bytes, nothing over; at most 16,382 of them"
  pub some : 0 < length (rest_of d)
  pub whole : length (rest_of d) % version_bytes ≡ 0
  pub bounded : length (rest_of d) ≤ version_bytes * max_list
  pub count : length (listed d) ≤ max_list

pub readable-known : (d : List ℕ) → is_readable_negotiation d ≡ true → Readable d
unfolding is_readable_negotiation read_header
readable-known d e =
    let both = both_true (clear (header_rules d 0)) (is_version_negotiation d) e in
    let form = both_true (is_long d) (eqb (version_of d) 0) both.1 in
    let over = both_true (not (ltb max_datagram (length d))) _ both.0 in
    let past = both_true (not (truncated d 0)) _ over.1 in
    let list = both_true (not (is_version_negotiation d && not_whole (rest_of d))) _ past.1 in
    let inside : long_truncated d ≡ false =
    sym (ap (λ (b : Bool). cond b (long_truncated d) (short_truncated d 0)) form.0) ∙
    (neither (eqb (length d) 0) _ past.0).1 in
    let fours =
    neither (eqb (length (rest_of d)) 0) (not (eqb (length (rest_of d) % version_bytes) 0))
    (sym (ap (λ (b : Bool). not (b && not_whole (rest_of d))) both.1) ∙ list.0) in
    let fits : length d ≤ max_datagram = ltb-false _ _ (not-true _ over.0) in
    let within : rest_start d ≤ length d = ltb-false _ _ inside in
    let bounded : length (rest_of d) ≤ version_bytes * max_list = rw (length-drop (rest_start d) d) (omega arith) in
    let nonempty : length (rest_of d) ≡ 0 → ⊥ = eqb-false _ _ fours.0 in
    record {
      reads =
          λ told.
          told-ignored d told 0 form.0 ∙
          (lowest-clear (refuse Reading) (answered (form_of d 0)) (header_rules d 0) both.0 ∙ rw (form.0, form.1));
      fits = fits;
      within = within;
      some = omega (arith, nonempty);
      whole = eqb-true _ _ (not-false _ fours.1);
      bounded = bounded;
      count = rw (length-entries (rest_of d)) (omega (arith, bounded));
    }

-- Where the parts lie, where the reader answered a Version Negotiation packet
pub answered-known : (d : List ℕ) (D S L : Span) → read_header d 0 ≡ answered (version_negotiation D S L) → Parts d D S L
answered-known d D S L e =
    let readable : is_readable_negotiation d ≡ true = readable-is-read d ∙ ap negotiation_in e in
    let known = readable-known d readable in
    let same = sym e ∙ known.reads 0 in
    record {
      readable = readable;
      within = known.within;
      destination-is = cc same;
      source_is = cc same;
      list-is = cc same;
    }

-- The same for an answer of `read_header`
pub answered-by-reply : (d : List ℕ) (r : Result Header Refusal) (D S L : Span) → header_reply r ≡ read_header d 0 →
    r ≡ Ok (VersionNegotiation D S L) → Parts d D S L
answered-by-reply d r D S L e is = answered-known d D S L (sym e ∙ ap header_reply is)
