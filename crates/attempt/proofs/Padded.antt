-- A list in an array of n places, entry by entry: a walk that stores each next entry fills it.
use Prim.Native.Nat.{ℕ, ◌+◌, ◌≤◌, ◌<◌}
use mathlib.Core.List.{List, [], ◌∷◌, ◌++◌}
use mathlib.Core.Path.{◌≡◌, refl, sym, ap, ◌∙◌}
use native.Mathlib.Numerals.{add-one}
use native.Mathlib.Omega.{arith}
use lib.ListN.{length, take, get_or, set, replicate, length-replicate}
use lib.Seq.{take-suc, take_all, length-take-le}
use Rattle.journal.proofs.Places.{one_more}
use Rattle.attempt.specs.Attempt.{over, padded}

pub padded-none : (n : ℕ) → replicate n 0 ≡ padded n []
unfolding padded
padded-none n = refl

-- One entry more, at the place after the last: over what was found, and over zeros
pub push-over : (found xs : List ℕ) (i x : ℕ) → length xs ≡ i → i < length found →
    set (over xs found) i x ≡ over (xs ++ (x ∷ [])) found
push-over found xs i x e h =
    let room : length xs < length found = omega arith in
    rw (← e) (one_more found xs x room)

pub push : (n : ℕ) (xs : List ℕ) (i x : ℕ) → length xs ≡ i → i < n → set (padded n xs) i x ≡ padded n (xs ++ (x ∷ []))
unfolding padded
push n xs i x e h =
    let zeros : List ℕ = replicate n 0 in
    let all : length zeros ≡ n = length-replicate n 0 in
    push-over zeros xs i x e (omega arith)

-- The walk over a list: the next entry, and the end
pub push-next : (n : ℕ) (xs : List ℕ) (i : ℕ) → length xs ≤ n → i < length xs →
    set (padded n (take i xs)) i (get_or xs i 0) ≡ padded n (take (i + 1) xs)
push-next n xs i room h =
    push n (take i xs) i (get_or xs i 0) (length-take-le i xs (omega arith)) (omega arith) ∙
    ap (padded n) (sym (take-suc xs i 0 h) ∙ rw (add-one i))

pub padded-all : (n : ℕ) (xs : List ℕ) (i : ℕ) → length xs ≤ i → padded n (take i xs) ≡ padded n xs
padded-all n xs i h = ap (padded n) (take_all i xs h)
