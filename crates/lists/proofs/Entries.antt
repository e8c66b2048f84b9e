-- Lists of versions on the wire: the entries by place, lengths, and that bytes and entries tell each other.
use Prim.Native.Nat.{ℕ, zero, suc, ◌+◌, ◌*◌, ◌/◌, ◌%◌, ◌^◌, ◌≤◌, ◌<◌}
use mathlib.Core.Bool.{Bool, true, false, ◌&&◌, ◌||◌, false≢true}
use mathlib.Core.Path.{◌≡◌, refl, sym, ap, ◌∙◌}
use mathlib.Core.List.{List, [], ◌∷◌, ◌++◌, append-nil}
use Rattle.std.specs.Prelude.{None, Some}
use native.Mathlib.Nat.{add-zero, div-add-mod'}
use native.Mathlib.Numerals.{add-one}
use native.Mathlib.Omega.{arith}
use lib.Dec.{eqb, ltb}
use lib.ListN.{length, take, drop, get_or, set, length-drop}
use lib.Seq.{get_or-drop, drop-drop, take-suc, take-length, take_at, drop_at, length-take-le, sets-eq}
use Rattle.versions.proofs.Lists.{elem-here, elem_next}
use borrow.Author.Tests.{eqb-true, eqb-false, ltb-true, lt-ltb, le-leb, lt-leb, eq-eqb, ne_eqb}
use Rattle.versions.specs.Table.{elem}
use Rattle.lists.specs.Wire.{number, number_at, version_bytes, entries, bytes_of, list_bytes, all_below, entry_at, after_put}

-- ---- the entries by place

entries-front : (s : List ℕ) → version_bytes ≤ length s → entries s ≡ number_at s 0 ∷ entries (drop version_bytes s)
unfolding entries
entries-front [] h = absurd (omega arith)
entries-front (a ∷ []) h = absurd (omega arith)
entries-front (a ∷ b ∷ []) h = absurd (omega arith)
entries-front (a ∷ b ∷ c ∷ []) h = absurd (omega arith)
entries-front (a ∷ b ∷ c ∷ d ∷ rest) h = refl

entries-short : (s : List ℕ) → length s < version_bytes → entries s ≡ []
unfolding entries
entries-short [] h = refl
entries-short (a ∷ []) h = refl
entries-short (a ∷ b ∷ []) h = refl
entries-short (a ∷ b ∷ c ∷ []) h = refl
entries-short (a ∷ b ∷ c ∷ d ∷ rest) h = absurd (omega arith)

-- From a place on: the number there is the next entry
pub entries-step : (s : List ℕ) (k : ℕ) → k + version_bytes ≤ length s
    → entries (drop k s) ≡ number_at s k ∷ entries (drop (k + version_bytes) s)
entries-step s k h =
    let l : version_bytes ≤ length (drop k s) = simp length-drop (omega arith) in
    entries-front (drop k s) l ∙ simp (get_or-drop, drop-drop, add-zero)

-- Fewer than four bytes from a place on are no entry
pub entries-end : (s : List ℕ) (k : ℕ) → length s < k + version_bytes → entries (drop k s) ≡ []
entries-end s k h = entries-short (drop k s) (simp length-drop (omega arith))

four-more : (i : ℕ) → suc i * version_bytes ≡ suc (suc (suc (suc (i * version_bytes))))
four-more i = omega arith

pub drop-entries : (i : ℕ) (s : List ℕ) → drop i (entries s) ≡ entries (drop (i * version_bytes) s)
unfolding entries
drop-entries zero s = refl
drop-entries (suc i) [] = rw (four-more i)
drop-entries (suc i) (a ∷ []) = rw (four-more i)
drop-entries (suc i) (a ∷ b ∷ []) = rw (four-more i)
drop-entries (suc i) (a ∷ b ∷ c ∷ []) = rw (four-more i)
drop-entries (suc i) (a ∷ b ∷ c ∷ d ∷ rest) = rw (four-more i) (drop-entries i rest)

entry_at-drop : (vs : List ℕ) (place : ℕ) → entry_at vs place ≡ entry_at (drop place vs) 0
unfolding entry_at
entry_at-drop [] zero = refl
entry_at-drop [] (suc place) = refl
entry_at-drop (v ∷ vs) zero = refl
entry_at-drop (v ∷ vs) (suc place) = entry_at-drop vs place

-- Of a list of numbers: the entry at a place, or none past its end
pub entry_at-there : (vs : List ℕ) (place : ℕ) → place < length vs → entry_at vs place ≡ Some (get_or vs place 0)
unfolding entry_at
entry_at-there [] place h = absurd (omega arith)
entry_at-there (v ∷ vs) zero h = refl
entry_at-there (v ∷ vs) (suc place) h = entry_at-there vs place (omega arith)

pub entry_at-past : (vs : List ℕ) (place : ℕ) → length vs ≤ place → entry_at vs place ≡ None
unfolding entry_at
entry_at-past [] place h = refl
entry_at-past (v ∷ vs) zero h = absurd (omega arith)
entry_at-past (v ∷ vs) (suc place) h = entry_at-past vs place (omega arith)

entry_at-entries : (s : List ℕ) (place : ℕ)
    → entry_at (entries s) place ≡ entry_at (entries (drop (place * version_bytes) s)) 0
entry_at-entries s place = entry_at-drop (entries s) place ∙ ap (λ (l : List ℕ). entry_at l 0) (drop-entries place s)

-- The entry at a place is the number there
pub entry_at-some : (s : List ℕ) (place : ℕ) → place * version_bytes + version_bytes ≤ length s
    → entry_at (entries s) place ≡ Some (number_at s (place * version_bytes))
unfolding entry_at
entry_at-some s place h = entry_at-entries s place ∙ rw (entries-step s (place * version_bytes) h)

pub entry_at-none : (s : List ℕ) (place : ℕ) → length s < place * version_bytes + version_bytes
    → entry_at (entries s) place ≡ None
unfolding entry_at
entry_at-none s place h = entry_at-entries s place ∙ rw (entries-end s (place * version_bytes) h)

-- ---- a search by place

-- The entry at a place is the version sought
pub elem-found : (v : ℕ) (s : List ℕ) (k : ℕ) → k + version_bytes ≤ length s → number_at s k ≡ v
    → elem v (entries (drop k s)) ≡ true
unfolding elem
elem-found v s k h e = rw (entries-step s k h, eq-eqb _ _ e)

-- The entry at a place is another version: the search goes on behind it
pub elem-passed : (v : ℕ) (s : List ℕ) (k : ℕ) → k + version_bytes ≤ length s → (number_at s k ≡ v → ⊥)
    → elem v (entries (drop k s)) ≡ elem v (entries (drop (k + version_bytes) s))
unfolding elem
elem-passed v s k h e = rw (entries-step s k h, ne_eqb _ _ e)

pub elem_end : (v : ℕ) (s : List ℕ) (k : ℕ) → length s < k + version_bytes → elem v (entries (drop k s)) ≡ false
unfolding elem
elem_end v s k h = rw (entries-end s k h)

-- ---- lengths

pub length-entries : (s : List ℕ) → length (entries s) ≡ length s / version_bytes
unfolding entries
length-entries [] = omega arith
length-entries (a ∷ []) = omega arith
length-entries (a ∷ b ∷ []) = omega arith
length-entries (a ∷ b ∷ c ∷ []) = omega arith
length-entries (a ∷ b ∷ c ∷ d ∷ rest) = omega (arith, length-entries rest)

pub length-list_bytes : (vs : List ℕ) → length (list_bytes vs) ≡ version_bytes * length vs
unfolding list_bytes
length-list_bytes [] = omega arith
length-list_bytes (v ∷ vs) = omega (arith, length-list_bytes vs)

pub list_bytes-append : (xs ys : List ℕ) → list_bytes (xs ++ ys) ≡ list_bytes xs ++ list_bytes ys
unfolding list_bytes
list_bytes-append [] ys = refl
list_bytes-append (x ∷ xs) ys = ap (λ (l : List ℕ). bytes_of x ++ l) (list_bytes-append xs ys)

-- ---- every number of a list is below a bound

both : (a b : Bool) → (a && b) ≡ true → (a ≡ true) × (b ≡ true)
both true b e = (refl, e)
both false b e = absurd (false≢true e)

pub all_below-cons : (bound x : ℕ) (xs : List ℕ) → x < bound → all_below bound xs ≡ true
    → all_below bound (x ∷ xs) ≡ true
unfolding all_below
all_below-cons bound x xs h e = rw (lt-ltb x bound h) e

pub all_below-head : (bound x : ℕ) (xs : List ℕ) → all_below bound (x ∷ xs) ≡ true
    → (x < bound) × (all_below bound xs ≡ true)
unfolding all_below
all_below-head bound x xs e = let p = both (ltb x bound) (all_below bound xs) e in (ltb-true x bound p.0, p.1)

-- So is each that occurs in it
pub all_below-elem : (bound : ℕ) (xs : List ℕ) (v : ℕ) → all_below bound xs ≡ true → elem v xs ≡ true → v < bound
unfolding elem
all_below-elem bound [] v below h = absurd (false≢true h)
all_below-elem bound (x ∷ xs) v below h =
    let p = all_below-head bound x xs below in
    go p.0 (all_below-elem bound xs v p.1) (eqb x v) refl h
  where
    go : x < bound → (elem v xs ≡ true → v < bound) → (b : Bool) → eqb x v ≡ b → (b || elem v xs) ≡ true → v < bound
    go small later true e h = let same : x ≡ v = eqb-true x v e in rw (← same) small
    go small later false e h = later h

-- From each element's bound, which a slice of numbers tells of its elements
pub all_below-each : (bound : ℕ) (s : List ℕ)
    → ((i : ℕ) → i < length s → get_or s i 0 < bound) → all_below bound s ≡ true
unfolding all_below
all_below-each bound [] h = refl
all_below-each bound (x ∷ xs) h =
    rw (lt-ltb x bound (h 0 (omega arith))) (all_below-each bound xs (λ i l. h (suc i) (omega arith)))

pub all_below-append : (bound : ℕ) (xs ys : List ℕ) → all_below bound xs ≡ true → all_below bound ys ≡ true
    → all_below bound (xs ++ ys) ≡ true
unfolding all_below
all_below-append bound [] ys e f = f
all_below-append bound (x ∷ xs) ys e f =
    let p = all_below-head bound x xs e in
    all_below-cons bound x (xs ++ ys) p.0 (all_below-append bound xs ys p.1 f)

pub all_below-take : (bound n : ℕ) (s : List ℕ) → all_below bound s ≡ true → all_below bound (take n s) ≡ true
unfolding all_below
all_below-take bound zero s e = refl
all_below-take bound (suc n) [] e = refl
all_below-take bound (suc n) (x ∷ xs) e =
    let p = all_below-head bound x xs e in
    all_below-cons bound x (take n xs) p.0 (all_below-take bound n xs p.1)

pub all_below-drop : (bound n : ℕ) (s : List ℕ) → all_below bound s ≡ true → all_below bound (drop n s) ≡ true
unfolding all_below
all_below-drop bound zero s e = e
all_below-drop bound (suc n) [] e = refl
all_below-drop bound (suc n) (x ∷ xs) e = all_below-drop bound n xs (all_below-head bound x xs e).1

-- Four bytes in front
record Four (a b c d : ℕ) (rest : List ℕ) : Type 0 where
  first : a < 256
  second : b < 256
  third : c < 256
  fourth : d < 256
  others : all_below 256 rest ≡ true

four : (a b c d : ℕ) (rest : List ℕ) → all_below 256 (a ∷ b ∷ c ∷ d ∷ rest) ≡ true → Four a b c d rest
four a b c d rest e =
    let pa = all_below-head 256 a (b ∷ c ∷ d ∷ rest) e in
    let pb = all_below-head 256 b (c ∷ d ∷ rest) pa.1 in
    let pc = all_below-head 256 c (d ∷ rest) pb.1 in
    let pd = all_below-head 256 d rest pc.1 in
    record { first = pa.0; second = pb.0; third = pc.0; fourth = pd.0; others = pd.1 }

-- ---- bytes and entries tell each other

digits : (v p q r x y z : ℕ) → v ≡ p * 256 + x → p ≡ q * 256 + y → q ≡ r * 256 + z → number r z y x ≡ v
digits v p q r x y z e f g = omega arith

pub number-bytes_of : (v : ℕ) → v < 2 ^ 32
    → number (v / 0x1000000 % 256) (v / 0x10000 % 256) (v / 0x100 % 256) (v % 256) ≡ v
number-bytes_of v h =
    let p = v / 0x100 in
    let e2 : v / 0x10000 ≡ p / 256 = omega arith in
    let e3 : v / 0x1000000 ≡ p / 256 / 256 = omega arith in
    let l : p / 256 / 256 % 256 ≡ p / 256 / 256 = omega arith in
    rw (e2, e3, l)
    (digits v p (p / 256) (p / 256 / 256) (v % 256) (p % 256) (p / 256 % 256)
    (sym (div-add-mod' v 256)) (sym (div-add-mod' p 256)) (sym (div-add-mod' (p / 256) 256)))

pub bytes_of-number : (a b c d : ℕ) → a < 256 → b < 256 → c < 256 → d < 256
    → bytes_of (number a b c d) ≡ a ∷ b ∷ c ∷ d ∷ []
bytes_of-number a b c d ha hb hc hd =
    let ea : number a b c d / 0x1000000 % 256 ≡ a = omega arith in
    let eb : number a b c d / 0x10000 % 256 ≡ b = omega arith in
    let ec : number a b c d / 0x100 % 256 ≡ c = omega arith in
    let ed : number a b c d % 256 ≡ d = omega arith in
    cc

-- Four bytes for each version, and the versions again; more bytes behind them are more entries
pub entries-list_bytes-append : (vs rest : List ℕ) → all_below (2 ^ 32) vs ≡ true
    → entries (list_bytes vs ++ rest) ≡ vs ++ entries rest
unfolding entries list_bytes
entries-list_bytes-append [] rest e = refl
entries-list_bytes-append (v ∷ vs) rest e =
    let p = all_below-head (2 ^ 32) v vs e in
    let n : number (v / 0x1000000 % 256) (v / 0x10000 % 256) (v / 0x100 % 256) (v % 256) ≡ v = number-bytes_of v p.0 in
    let r : entries (list_bytes vs ++ rest) ≡ vs ++ entries rest = entries-list_bytes-append vs rest p.1 in
    cc

pub entries-list_bytes : (vs : List ℕ) → all_below (2 ^ 32) vs ≡ true → entries (list_bytes vs) ≡ vs
unfolding entries
entries-list_bytes vs e =
    ap entries (sym (append-nil (list_bytes vs))) ∙ entries-list_bytes-append vs [] e ∙ append-nil vs

-- Whole fours of bytes, and the bytes again
pub list_bytes-entries : (s : List ℕ) → length s % version_bytes ≡ 0 → all_below 256 s ≡ true
    → list_bytes (entries s) ≡ s
unfolding entries list_bytes
list_bytes-entries [] m e = refl
list_bytes-entries (a ∷ []) m e = absurd (omega arith)
list_bytes-entries (a ∷ b ∷ []) m e = absurd (omega arith)
list_bytes-entries (a ∷ b ∷ c ∷ []) m e = absurd (omega arith)
list_bytes-entries (a ∷ b ∷ c ∷ d ∷ rest) m e =
    let f = four a b c d rest e in
    let n = bytes_of-number a b c d f.first f.second f.third f.fourth in
    let r : list_bytes (entries rest) ≡ rest = list_bytes-entries rest (omega arith) f.others in
    cc

pub entries_below : (s : List ℕ) → all_below 256 s ≡ true → all_below (2 ^ 32) (entries s) ≡ true
unfolding entries all_below
entries_below [] e = refl
entries_below (a ∷ []) e = refl
entries_below (a ∷ b ∷ []) e = refl
entries_below (a ∷ b ∷ c ∷ []) e = refl
entries_below (a ∷ b ∷ c ∷ d ∷ rest) e =
    let f = four a b c d rest e in
    all_below-cons (2 ^ 32) (number a b c d) (entries rest) (omega arith) (entries_below rest f.others)

pub list_bytes-below : (vs : List ℕ) → all_below 256 (list_bytes vs) ≡ true
unfolding list_bytes all_below
list_bytes-below [] = refl
list_bytes-below (v ∷ vs) =
    let p : v / 0x1000000 % 256 < 256 = omega arith in
    let q : v / 0x10000 % 256 < 256 = omega arith in
    let r : v / 0x100 % 256 < 256 = omega arith in
    let s : v % 256 < 256 = omega arith in
    rw (lt-ltb _ _ p, lt-ltb _ _ q, lt-ltb _ _ r, lt-ltb _ _ s) (list_bytes-below vs)

-- ---- a list put into a buffer

-- Four stores one after the other
pub put_four : (l : List ℕ) (i a b c d : ℕ) → i + version_bytes ≤ length l
    → set (set (set (set l i a) (i + 1) b) (i + 2) c) (i + 3) d
    ≡ take i l ++ (a ∷ b ∷ c ∷ d ∷ []) ++ drop (i + version_bytes) l
put_four l i a b c d h =
    let e1 : i + 1 ≡ suc i = omega arith in
    let e2 : i + 2 ≡ suc (suc i) = omega arith in
    let e3 : i + 3 ≡ suc (suc (suc i)) = omega arith in
    rw (e1, e2, e3) (sets-eq (a ∷ b ∷ c ∷ d ∷ []) l i h)

-- One version more
pub put_step : (vs before buffer : List ℕ) (i : ℕ) → i < length vs
    → buffer ≡ list_bytes (take i vs) ++ drop (i * version_bytes) before
    → take (i * version_bytes) buffer ++ bytes_of (get_or vs i 0) ++ drop (i * version_bytes + version_bytes) buffer
    ≡ list_bytes (take (i + 1) vs) ++ drop ((i + 1) * version_bytes) before
unfolding list_bytes
put_step vs before buffer i h e =
    let front = list_bytes (take i vs) in
    let k = i * version_bytes in
    let m : length (take i vs) ≡ i = length-take-le i vs (omega arith) in
    let n : length front ≡ k = omega (arith, length-list_bytes (take i vs)) in
    let t : take k buffer ≡ front = rw e (take_at front (drop k before) k n) in
    let d : drop k buffer ≡ drop k before = rw e (drop_at front (drop k before) k n) in
    let d4 : drop (k + version_bytes) buffer ≡ drop (k + version_bytes) before =
    sym (drop-drop version_bytes k buffer) ∙ ap (drop version_bytes) d ∙ drop-drop version_bytes k before in
    let w : list_bytes (take (i + 1) vs) ≡ front ++ bytes_of (get_or vs i 0) =
    rw (add-one, take-suc vs i 0, list_bytes-append) in
    let z : (i + 1) * version_bytes ≡ k + version_bytes = omega arith in
    rw (z, w, t, d4)

-- All versions
pub put_all : (vs before buffer : List ℕ) (i : ℕ) → i ≡ length vs
    → buffer ≡ list_bytes (take i vs) ++ drop (i * version_bytes) before
    → buffer ≡ list_bytes vs ++ drop (version_bytes * length vs) before
put_all vs before buffer i e b =
    let t : take i vs ≡ vs = rw e (take-length vs) in
    let z : i * version_bytes ≡ version_bytes * length vs = omega arith in
    b ∙ rw (t, z)

pub after_put-room : (vs buffer : List ℕ) → version_bytes * length vs ≤ length buffer
    → after_put vs buffer ≡ list_bytes vs ++ drop (version_bytes * length vs) buffer
after_put-room vs buffer h = rw (le-leb _ _ h)

pub after_put-none : (vs buffer : List ℕ) → length buffer < version_bytes * length vs → after_put vs buffer ≡ buffer
after_put-none vs buffer h = rw (lt-leb _ _ h)

-- A turn of the search of a block: one entry more was looked at
pub block-turn : (v : ℕ) (xs : List ℕ) (from k : ℕ) (found told : Bool) → from + k < length xs → told ≡ eqb (get_or xs (from + k) 0) v
    → (found || elem v (drop (from + k) xs)) ≡ ((found || told) || elem v (drop (from + (k + 1)) xs))
block-turn v xs from k true told h e = refl
block-turn v xs from k false true h e = elem-here v xs (from + k) h (eqb-true _ _ (sym e))
block-turn v xs from k false false h e =
    elem_next v xs (from + k) h (eqb-false _ _ (sym e)) ∙ ap (λ (n : ℕ). elem v (drop n xs)) (omega arith)
