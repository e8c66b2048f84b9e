-- Bytes put at places of a buffer, one run after the other: the buffer begins with what was put, and goes on as it
-- was found.
use Prim.Native.Nat.{ℕ, suc, ◌+◌, ◌-◌, ◌≤◌, ◌<◌}
use mathlib.Core.Path.{◌≡◌, refl, sym, ap, ◌∙◌}
use mathlib.Core.List.{List, [], ◌∷◌, ◌++◌, append_assoc, append-nil}
use native.Mathlib.Nat.{zero-add}
use native.Mathlib.Numerals.{add-one}
use native.Mathlib.Omega.{arith}
use lib.ListN.{length, take, drop, get_or, set, length-append, length-drop, drop_of_length-le}
use lib.Seq.{take_at, drop_at, drop-drop, paste-suc, length-take-le, set_split}
use borrow.Author.Tests.{le-leb}
use borrow.Rule.Slice.PartMut.{put_mid}
use Rattle.lists.specs.Wire.{after_values}
use Rattle.versions.proofs.Lists.{part-rest}

-- ---- a copy

-- A turn of the loop that copies
pub copy_step : {A : Type 0} (s d : List A) (j : ℕ) (x : A) → j < length s → j < length d
    → set (take j s ++ drop j d) j (get_or s j x) ≡ take (j + 1) s ++ drop (j + 1) d
copy_step s d j x hs hd =
    let z : 0 + j ≡ j = zero-add j in
    let y : 0 + suc j ≡ suc j = zero-add (suc j) in
    let e = paste-suc d 0 s j x (rw z hd) hs in
    rw add-one (cc)

-- Where there is room, values are put in front
pub values_put : {A : Type 0} (values places : List A) → length values ≤ length places → after_values values places ≡ values ++ drop (length values) places
values_put values places h = rw (le-leb (length values) (length places) h) refl

-- ---- lengths

-- A part of a list is as long as it was asked for
pub length_part : (l : List ℕ) (at n : ℕ) → at + n ≤ length l → length (take n (drop at l)) ≡ n
length_part l at n h = length-take-le n (drop at l) (rw (length-drop at l) (omega arith))

-- A buffer in which bytes were put is as long as before
pub length-put : (xs buffer : List ℕ) → length xs ≤ length buffer
    → length (xs ++ drop (length xs) buffer) ≡ length buffer
length-put xs buffer h =
    length-append xs (drop (length xs) buffer) ∙ rw (length-drop (length xs) buffer) (omega arith)

-- ---- one run after the other

-- The part of a buffer from a place on, as it is lent
abbrev pub part_from : ℕ → List ℕ → List ℕ
part_from k buffer = take (length buffer - k) (drop k buffer)

pub length-part_from : (k : ℕ) (buffer : List ℕ) → length (part_from k buffer) ≡ length buffer - k
length-part_from k buffer = ap length (part-rest buffer k) ∙ length-drop k buffer

-- The buffer once that part has come back
abbrev pub put_from : ℕ → List ℕ → List ℕ → List ℕ
put_from k buffer part = put_mid k (length buffer - k) buffer part

none_after : (k : ℕ) (buffer : List ℕ) → drop (length buffer - k) (drop k buffer) ≡ []
none_after k buffer =
    let h : length (drop k buffer) ≤ length buffer - k = rw (length-drop k buffer) (omega arith) in
    drop_of_length-le (drop k buffer) h

-- Behind what was put already, ys, a run xs is put at the front of the part that is left
pub over : (ys xs found buffer part : List ℕ) (k : ℕ) → k ≡ length ys
    → buffer ≡ ys ++ drop (length ys) found
    → part ≡ xs ++ drop (length xs) (part_from k buffer)
    → put_from k buffer part ≡ (ys ++ xs) ++ drop (length (ys ++ xs)) found
over ys xs found buffer part k h e p =
    let t : take k buffer ≡ ys = rw e (take_at ys (drop (length ys) found) k (sym h)) in
    let d : drop k buffer ≡ drop (length ys) found = rw e (drop_at ys (drop (length ys) found) k (sym h)) in
    let q : part ≡ xs ++ drop (length xs) (drop (length ys) found) =
    p ∙ ap (λ (l : List ℕ). xs ++ drop (length xs) l) (part-rest buffer k ∙ d) in
    rw (t, none_after k buffer, append-nil part, q, drop-drop (length xs) (length ys) found, length-append ys xs)
    (sym (append_assoc ys xs (drop (length ys + length xs) found)))

-- One byte in front
pub put_one : (x : ℕ) (buffer : List ℕ) → 1 ≤ length buffer → set buffer 0 x ≡ (x ∷ []) ++ drop 1 buffer
put_one x buffer h = set_split buffer 0 x h
