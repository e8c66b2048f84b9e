-- The new sequence, part by part: its bytes behind one another, their number, and ours in its place or last.
use Prim.Native.Nat.{ℕ, suc, ◌+◌, ◌-◌, ◌≤◌}
use mathlib.Core.Bool.{Bool, true, false, cond, ◌||◌, true≢false}
use mathlib.Core.List.{List, [], ◌∷◌, ◌++◌, append_assoc, append-nil}
use mathlib.Core.Path.{◌≡◌, refl, sym, ap, ap₂, ◌∙◌}
use native.Mathlib.Nat.{le_refl}
use native.Mathlib.Omega.{arith}
use borrow.Author.Tests.{eq-eqb, eqb-true, ne_eqb}
use lib.Dec.{eqb}
use lib.ListN.{length, length-append}
use Rattle.integers.specs.Integers.{shortest_bytes, shortest_width}
use Rattle.integers.proofs.Least.{length-shortest}
use Rattle.lists.proofs.Places.{length_part}
use Rattle.parameters.specs.Limits.{max_sequence, version_information}
use Rattle.parameters.specs.Sequence.{Field}
use Rattle.parameters.specs.Writing.{Content, carrying, content_bytes, content_of, contents_in, holds_ours, is_ours, ours, renewed, sequence_bytes}
use Rattle.parameters.proofs.Carrying.{renewed-missing}
use Rattle.parameters_writer.specs.Renewing.{new_bytes, renewed_bytes, renewed_one}

-- ---- one behind the other

contents-append : (s : List ℕ) (xs ys : List Field) → contents_in s (xs ++ ys) ≡ contents_in s xs ++ contents_in s ys
unfolding contents_in
contents-append s [] ys = refl
contents-append s (f ∷ xs) ys = ap (λ (l : List Content). content_of s f ∷ l) (contents-append s xs ys)

renewed-append : (v : List ℕ) (xs ys : List Content) → renewed v (xs ++ ys) ≡ renewed v xs ++ renewed v ys
unfolding renewed
renewed-append v [] ys = refl
renewed-append v (p ∷ xs) ys = ap (λ (l : List Content). renewed_one v p ∷ l) (renewed-append v xs ys)

sequence-append : (xs ys : List Content) → sequence_bytes (xs ++ ys) ≡ sequence_bytes xs ++ sequence_bytes ys
unfolding sequence_bytes
sequence-append [] ys = refl
sequence-append (p ∷ xs) ys =
    ap (λ (l : List ℕ). content_bytes p ++ l) (sequence-append xs ys)
    ∙ sym (append_assoc (content_bytes p) (sequence_bytes xs) (sequence_bytes ys))

sequence-one : (p : Content) → sequence_bytes (p ∷ []) ≡ content_bytes p
unfolding sequence_bytes
sequence-one p = append-nil (content_bytes p)

bytes-append : (s v : List ℕ) (xs ys : List Field) → renewed_bytes s v (xs ++ ys) ≡ renewed_bytes s v xs ++ renewed_bytes s v ys
bytes-append s v xs ys =
    ap sequence_bytes (ap (renewed v) (contents-append s xs ys) ∙ renewed-append v (contents_in s xs) (contents_in s ys))
    ∙ sequence-append (renewed v (contents_in s xs)) (renewed v (contents_in s ys))

-- One parameter more
pub bytes-snoc : (s v : List ℕ) (xs : List Field) (f : Field) → renewed_bytes s v (xs ++ (f ∷ [])) ≡ renewed_bytes s v xs ++ new_bytes s v f
unfolding contents_in renewed
bytes-snoc s v xs f =
    bytes-append s v xs (f ∷ []) ∙ ap (λ (l : List ℕ). renewed_bytes s v xs ++ l) (sequence-one (renewed_one v (content_of s f)))

-- ---- sizes

pub content-size : (p : Content) → length (content_bytes p) ≡ shortest_width p.id + (shortest_width (length p.value) + length p.value)
content-size p =
    let n : ℕ = length p.value in
    length-append (shortest_bytes p.id) (shortest_bytes n ++ p.value)
    ∙ ap₂ (λ (a b : ℕ). a + b) (length-shortest p.id)
    (length-append (shortest_bytes n) p.value ∙ ap (λ (a : ℕ). a + n) (length-shortest n))

-- The length of a parameter's value in the new sequence
abbrev pub new_length : List ℕ → Field → ℕ
new_length v f = cond (eqb f.id version_information) (length v) (f.value.end - f.value.start)

-- A parameter of the old sequence in the new one
module _ (s v : List ℕ) (f : Field) where
  pub new-ours : f.id ≡ version_information → new_bytes s v f ≡ content_bytes (record { id = f.id; value = v })
  new-ours e = rw (eq-eqb _ _ e, e)

  pub new-other : (f.id ≡ version_information → ⊥) → new_bytes s v f ≡ content_bytes (content_of s f)
  new-other e = rw (ne_eqb _ _ e)

  -- Its size, where it lies within the sequence
  pub new-size : f.value.start ≤ f.value.end → f.value.end ≤ length s
      → length (new_bytes s v f) ≡ shortest_width f.id + (shortest_width (new_length v f) + new_length v f)
  new-size order ends = go (eqb f.id version_information) (eqb-true f.id version_information)
    where
      go : (b : Bool) → (b ≡ true → f.id ≡ version_information)
          → length (content_bytes (cond b (ours v) (content_of s f)))
          ≡ shortest_width f.id + (shortest_width (cond b (length v) (f.value.end - f.value.start)) + cond b (length v) (f.value.end - f.value.start))
      go true e = content-size (ours v) ∙ ap (λ (id : ℕ). shortest_width id + (shortest_width (length v) + length v)) (sym (e refl))
      go false e =
          content-size (content_of s f)
          ∙ ap (λ (n : ℕ). shortest_width f.id + (shortest_width n + n)) (length_part s f.value.start (f.value.end - f.value.start) (omega arith))

  -- No value is too long
  pub length-short : length v ≤ max_sequence → length s ≤ max_sequence → f.value.end ≤ length s → new_length v f ≤ max_sequence
  length-short hv hs ends = go (eqb f.id version_information)
    where
      go : (b : Bool) → cond b (length v) (f.value.end - f.value.start) ≤ max_sequence
      go true = hv
      go false = omega arith

length-contents : (s : List ℕ) (fs : List Field) → length (contents_in s fs) ≡ length fs
unfolding contents_in
length-contents s [] = refl
length-contents s (f ∷ fs) = ap suc (length-contents s fs)

length-renewed : (v : List ℕ) (ps : List Content) → length (renewed v ps) ≡ length ps
unfolding renewed
length-renewed v [] = refl
length-renewed v (p ∷ ps) = ap suc (length-renewed v ps)

-- The parameters passed take no more bytes than all of them
pub passed-within : (s v : List ℕ) (items passed rest : List Field) → passed ++ rest ≡ items
    → length (renewed_bytes s v passed) ≤ length (renewed_bytes s v items)
passed-within s v items passed rest e =
    let whole : renewed_bytes s v items ≡ renewed_bytes s v passed ++ renewed_bytes s v rest =
    ap (renewed_bytes s v) (sym e) ∙ bytes-append s v passed rest in
    omega (arith, ap length whole, length-append (renewed_bytes s v passed) (renewed_bytes s v rest))

-- ---- ours

-- The new value is part of what is put
value-in-ours : (v : List ℕ) → length v ≤ length (content_bytes (ours v))
value-in-ours v = omega (arith, content-size (ours v))

value-in-renewed : (v : List ℕ) (ps : List Content) → holds_ours ps ≡ true → length v ≤ length (sequence_bytes (renewed v ps))
unfolding renewed holds_ours sequence_bytes
value-in-renewed v [] e = absurd (true≢false (sym e))
value-in-renewed v (p ∷ ps) e = go (is_ours p) (value-in-renewed v ps) e
  where
    go : (b : Bool) → (holds_ours ps ≡ true → length v ≤ length (sequence_bytes (renewed v ps))) → (b || holds_ours ps) ≡ true
        → length v ≤ length (content_bytes (cond b (ours v) p) ++ sequence_bytes (renewed v ps))
    go true rest e = omega (arith, value-in-ours v, length-append (content_bytes (ours v)) (sequence_bytes (renewed v ps)))
    go false rest e = omega (arith, rest e, length-append (content_bytes p) (sequence_bytes (renewed v ps)))

module _ (s v : List ℕ) (fs : List Field) where
  -- Where ours is among them, the new sequence is those that were there
  module _ (there : holds_ours (contents_in s fs) ≡ true) where
    pub new-there : sequence_bytes (carrying v (contents_in s fs)) ≡ renewed_bytes s v fs
    unfolding carrying
    new-there = rw there

    pub count-there : length (carrying v (contents_in s fs)) ≡ length fs
    unfolding carrying
    count-there = rw there (length-renewed v (contents_in s fs) ∙ length-contents s fs)

  -- Where it is not, ours stands behind them
  module _ (missing : holds_ours (contents_in s fs) ≡ false) where
    pub new-last : sequence_bytes (carrying v (contents_in s fs)) ≡ renewed_bytes s v fs ++ content_bytes (ours v)
    unfolding carrying
    new-last =
        let same = sym (renewed-missing v (contents_in s fs) missing) in
        rw missing
        (sequence-append (contents_in s fs) (ours v ∷ []) ∙ ap₂ (λ (a b : List ℕ). a ++ b) (ap sequence_bytes same) (sequence-one (ours v)))

    pub count-last : length (carrying v (contents_in s fs)) ≡ length fs + 1
    unfolding carrying
    count-last = rw missing (length-append (contents_in s fs) (ours v ∷ []) ∙ ap (λ (n : ℕ). n + 1) (length-contents s fs))

  -- Either way they take no more bytes than the new sequence
  pub renewed-within : length (renewed_bytes s v fs) ≤ length (sequence_bytes (carrying v (contents_in s fs)))
  renewed-within = go (holds_ours (contents_in s fs)) refl
    where
      go : (b : Bool) → holds_ours (contents_in s fs) ≡ b → length (renewed_bytes s v fs) ≤ length (sequence_bytes (carrying v (contents_in s fs)))
      go true e = rw (new-there e) (le_refl (length (renewed_bytes s v fs)))
      go false e = rw (new-last e, length-append (renewed_bytes s v fs) (content_bytes (ours v))) (omega arith)

  -- Nor does the new value
  pub value-within : length v ≤ length (sequence_bytes (carrying v (contents_in s fs)))
  value-within = go (holds_ours (contents_in s fs)) refl
    where
      go : (b : Bool) → holds_ours (contents_in s fs) ≡ b → length v ≤ length (sequence_bytes (carrying v (contents_in s fs)))
      go true e = rw (new-there e) (value-in-renewed v (contents_in s fs) e)
      go false e =
          rw (new-last e) (omega (arith, value-in-ours v, length-append (renewed_bytes s v fs) (content_bytes (ours v))))
