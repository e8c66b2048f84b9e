-- A list over the front of what was found: one entry more, at the place after the last, is over it too.
use Prim.Native.Nat.{ℕ, suc, ◌<◌}
use mathlib.Core.List.{List, [], ◌∷◌, ◌++◌}
use mathlib.Core.Path.{◌≡◌, sym, ◌∙◌}
use native.Mathlib.Numerals.{add-one}
use lib.ListN.{length, drop, get_or, set, length-append}
use lib.Seq.{drop-cons, set-append_seam, append_snoc}

pub one_more : (found xs : List ℕ) (x : ℕ) → length xs < length found →
    set (xs ++ drop (length xs) found) (length xs) x ≡ (xs ++ (x ∷ [])) ++ drop (length (xs ++ (x ∷ []))) found
one_more found xs x room =
    let more : length (xs ++ (x ∷ [])) ≡ suc (length xs) = length-append xs (x ∷ []) ∙ add-one (length xs) in
    rw (drop-cons found (length xs) 0 room, more)
    (set-append_seam xs (get_or found (length xs) 0) (drop (suc (length xs)) found) x ∙
    sym (append_snoc xs x (drop (suc (length xs)) found)))
