-- What is written is read where it was put: the fields and the contents of a sequence that was written.
use Prim.Native.Nat.{ℕ, zero, suc, ◌+◌, ◌-◌, ◌<◌, ◌≤◌}
use mathlib.Core.Bool.{true}
use mathlib.Core.List.{List, [], ◌∷◌, ◌++◌, append_assoc}
use mathlib.Core.Path.{◌≡◌, refl, sym, ap, ◌∙◌}
use native.Mathlib.Omega.{arith}
use borrow.Author.Tests.{eq-eqb, le-leb, le-ltb, lt-leb}
use lib.ListN.{length, drop, length-append, length-drop}
use lib.Seq.{drop_at, drop-drop, take_at}
use Rattle.refusals.specs.Reply.{Reply, Reply.answered}
use Rattle.integers.specs.Integers.{shortest_bytes, shortest_width}
use Rattle.integers.specs.Limits.{max_integer}
use Rattle.integers.proofs.Least.{length-shortest, shortest-back, shortest-width-one}
use Rattle.parameters.specs.Sequence.{Field, bytes_in, field_at, behind_id, fields_from, fields_of}
use Rattle.parameters.specs.Reading.{fields_in}
use Rattle.parameters.specs.Writing.{Content, content_bytes, contents_in, contents_of, sequence_bytes}
use Rattle.parameters.specs.Laws.{Writable, in_shortest_form, placed, placed_at, shortest_from}

-- What lies behind a front that a sequence has at a place
drop-behind : (s : List ℕ) (at n : ℕ) (front rest : List ℕ) → drop at s ≡ front ++ rest → length front ≡ n → drop (at + n) s ≡ rest
drop-behind s at n front rest e h = sym (drop-drop n at s) ∙ ap (drop n) e ∙ drop_at front rest n h

-- A parameter that was written at a place of a sequence
module _ (s : List ℕ) (at : ℕ) (p : Content) (rest : List ℕ) (e : drop at s ≡ content_bytes p ++ rest) where
  -- at the place lies its identifier,
  at-id : drop at s ≡ shortest_bytes p.id ++ (shortest_bytes (length p.value) ++ (p.value ++ rest))
  at-id = e ∙ simp append_assoc

  -- behind that its length,
  at_length : drop (at + shortest_width p.id) s ≡ shortest_bytes (length p.value) ++ (p.value ++ rest)
  at_length = drop-behind s at _ (shortest_bytes p.id) _ at-id (length-shortest p.id)

  -- behind that its value,
  at_value : drop (placed_at at p).value.start s ≡ p.value ++ rest
  at_value =
      drop-behind s (at + shortest_width p.id) _ (shortest_bytes (length p.value)) _ at_length
      (length-shortest (length p.value))

  -- and behind that the rest
  at-end : drop (placed_at at p).value.end s ≡ rest
  at-end = drop-behind s (placed_at at p).value.start _ p.value rest at_value refl

  -- its end is in the sequence
  end-within : at ≤ length s → (placed_at at p).value.end ≤ length s
  end-within within = omega (arith, simp (length-drop, length-append, length-shortest) at (ap length e))

  -- the bytes of its value are those that were written
  value_same : bytes_in s (placed_at at p).value ≡ p.value
  value_same =
      let start : ℕ = (placed_at at p).value.start in
      let long : start + length p.value - start ≡ length p.value = omega arith in
      rw (at_value, long) (take_at p.value rest (length p.value) refl)

  -- it is read with its identifier, and its value where it was put
  field-read : at ≤ length s → p.id ≤ max_integer → length p.value ≤ max_integer → field_at s at ≡ answered (placed_at at p)
  unfolding field_at behind_id
  field-read within small short =
      rw (at-id, shortest-back p.id _ small, at_length, shortest-back (length p.value) _ short, le-ltb _ _ (end-within within)) refl

-- Parameters that were written from a place to the end of a sequence are read in as many turns, each where it was put
pub fields_read : (turns : ℕ) (s : List ℕ) (at : ℕ) (ps : List Content) → Writable ps → at ≤ length s
    → drop at s ≡ sequence_bytes ps → length ps ≤ turns → fields_from turns s at ≡ answered (placed at ps)
unfolding fields_from placed sequence_bytes
fields_read zero s at [] w within e h = refl
fields_read zero s at (p ∷ ps) w within e h = absurd (omega arith)
fields_read (suc turns) s at [] w within e h =
    let past : length s ≤ at = omega (arith, simp length-drop at (ap length e)) in
    rw (le-leb _ _ past) refl
fields_read (suc turns) s at (p ∷ ps) w within e h =
    let end = end-within s at p (sequence_bytes ps) e within in
    let one = shortest-width-one p.id in
    let before : at < length s = omega arith in
    let next = fields_read turns s (placed_at at p).value.end ps w.2 end (at-end s at p (sequence_bytes ps) e) (omega arith) in
    rw (lt-leb _ _ before, field-read s at p (sequence_bytes ps) e within w.0 w.1, next) refl

-- What they say there is what was written
pub contents-read : (s : List ℕ) (at : ℕ) (ps : List Content) → drop at s ≡ sequence_bytes ps → contents_in s (placed at ps) ≡ ps
unfolding contents_in placed sequence_bytes
contents-read s at [] e = refl
contents-read s at (p ∷ ps) e =
    rw (value_same s at p (sequence_bytes ps) e, contents-read s (placed_at at p).value.end ps (at-end s at p (sequence_bytes ps) e)) refl

-- The bytes of a parameter and of those behind it
pub sequence-length : (p : Content) (ps : List Content)
    → length (sequence_bytes (p ∷ ps))
    ≡ shortest_width p.id + (shortest_width (length p.value) + length p.value) + length (sequence_bytes ps)
unfolding sequence_bytes
sequence-length p ps = simp (length-append, length-shortest)

-- Each parameter takes a byte at least
count-length : (ps : List Content) → length ps ≤ length (sequence_bytes ps)
count-length [] = omega arith
count-length (p ∷ ps) = omega (arith, sequence-length p ps, shortest-width-one p.id, count-length ps)

-- Parameters that are written are in shortest form
shortest-placed : (at : ℕ) (ps : List Content) → shortest_from at (placed at ps) ≡ true
unfolding shortest_from placed
shortest-placed at [] = refl
shortest-placed at (p ∷ ps) =
    let start : ℕ = (placed_at at p).value.start in
    let long : start + length p.value - start ≡ length p.value = omega arith in
    rw (long, eq-eqb start start refl, shortest-placed (placed_at at p).value.end ps) refl

module _ (ps : List Content) (w : Writable ps) where
  -- The fields of a sequence that was written are those that were put, each at its place
  pub fields-written : fields_of (sequence_bytes ps) ≡ answered (placed 0 ps)
  unfolding fields_of
  fields-written = fields_read _ (sequence_bytes ps) 0 ps w (omega arith) refl (count-length ps)

  -- What a sequence that was written says is what was written
  pub contents-written : contents_of (sequence_bytes ps) ≡ ps
  contents-written = rw fields-written (contents-read (sequence_bytes ps) 0 ps refl)

  -- and it is in shortest form
  pub shortest-written : in_shortest_form (sequence_bytes ps) ≡ true
  shortest-written = ap (λ (r : Reply (List Field)). shortest_from 0 (fields_in r)) fields-written ∙ shortest-placed 0 ps
