-- The bytes of Version Information: how many they are, and that two lists put one behind the other leave them in the
-- buffer.
use Prim.Native.Nat.{ℕ, ◌*◌, ◌-◌, ◌≤◌}
use mathlib.Core.List.{List, [], ◌∷◌, ◌++◌, append-nil}
use mathlib.Core.Path.{◌≡◌, ap, ◌∙◌}
use native.Mathlib.Omega.{arith}
use native.Mathlib.Nat.{le_refl}
use lib.ListN.{length, take, drop, length-drop, drop_of_length-le}
use lib.Seq.{drop-drop}
use Rattle.lists.specs.Wire.{bytes_of, list_bytes, version_bytes, after_put}
use Rattle.lists.proofs.Entries.{length-list_bytes, after_put-room}
use Rattle.versions.proofs.Lists.{part-rest}
use Rattle.information.specs.Information.{information_bytes, information_length}

pub length-information : (chosen : ℕ) (available : List ℕ) → length (information_bytes chosen available) ≡ information_length available
length-information chosen available = omega (arith, length-list_bytes available)

-- Nothing is behind a part that goes to the end
rest_end : (xs : List ℕ) (i : ℕ) → drop (length xs - i) (drop i xs) ≡ []
rest_end xs i =
    let all : length (drop i xs) ≤ length xs - i = rw (length-drop i xs) (le_refl (length xs - i)) in
    drop_of_length-le (drop i xs) all

-- The Chosen Version put at the front of a buffer, then the Available Versions behind it
pub put_both : (chosen : ℕ) (available buffer first rest : List ℕ) → information_length available ≤ length buffer
    → first ≡ after_put (chosen ∷ []) buffer
    → rest ≡ after_put available (take (length first - version_bytes) (drop version_bytes first))
    → take version_bytes first ++ (rest ++ drop (length first - version_bytes) (drop version_bytes first))
    ≡ information_bytes chosen available ++ drop (information_length available) buffer
unfolding list_bytes
put_both chosen available buffer first rest room f r =
    let one : first ≡ bytes_of chosen ++ drop version_bytes buffer = f ∙ after_put-room (chosen ∷ []) buffer (omega arith) in
    let behind : drop version_bytes first ≡ drop version_bytes buffer = ap (drop version_bytes) one in
    let fits : version_bytes * length available ≤ length (drop version_bytes buffer) = rw (length-drop version_bytes buffer) (omega arith) in
    let others : rest ≡ list_bytes available ++ drop (information_length available) buffer =
    r ∙ ap (after_put available) (part-rest first version_bytes ∙ behind) ∙ after_put-room available (drop version_bytes buffer) fits
    ∙ ap (λ (l : List ℕ). list_bytes available ++ l) (drop-drop (version_bytes * length available) version_bytes buffer) in
    let front : take version_bytes first ≡ bytes_of chosen = ap (take version_bytes) one in
    rw (front, rest_end first version_bytes, others, append-nil (list_bytes available ++ drop (information_length available) buffer))
