-- How much room is enough: the new sequence has at most three bytes more than the old one and the value together.
use Prim.Native.Nat.{ℕ, ◌+◌, ◌<◌, ◌≤◌}
use mathlib.Core.Bool.{Bool, true, false, cond, ◌||◌, false≢true}
use mathlib.Core.List.{List, [], ◌∷◌, ◌++◌}
use mathlib.Core.Path.{◌≡◌, refl, sym, ap, ◌∙◌}
use native.Mathlib.Omega.{arith}
use borrow.Author.Tests.{eqb-true}
use lib.ListN.{length, length-append}
use Rattle.refusals.specs.Reply.{Reply.answered}
use Rattle.integers.specs.Integers.{held_below, shortest, shortest_bytes, shortest_width, width_of}
use Rattle.integers.proofs.Least.{least-width, length-shortest}
use Rattle.lists.specs.Wire.{all_below}
use Rattle.versions.specs.Table.{elem}
use Rattle.parameters.specs.Limits.{version_information}
use Rattle.parameters.specs.Sequence.{repeats}
use Rattle.parameters.specs.Writing.{Content, carrying, content_bytes, contents_of, holds_ours, is_ours, ours, parameters_to_write, renewed, sequence_bytes}
use Rattle.parameters.specs.Laws.{shortest_form}
use Rattle.parameters.proofs.Carrying.{by-holding, holds_elem, ids_in, neither, renewed-missing}
use Rattle.parameters.proofs.Kept.{read-answers, write_kept}
use Rattle.parameters.proofs.Rewritten.{shortest-shorter}
use Rattle.parameters.proofs.Written.{once-of}

-- The bytes of ours: one for the identifier, those of the length, and the value
ours-size : (value : List ℕ) → length (content_bytes (ours value)) ≡ 1 + (shortest_width (length value) + length value)
unfolding shortest_width shortest held_below width_of
ours-size value =
    let behind = length-append (shortest_bytes (length value)) value in
    let all = length-append (shortest_bytes version_information) (shortest_bytes (length value) ++ value) in
    let id = length-shortest version_information in
    omega (arith, behind, all, id, length-shortest (length value))

-- Ours put last, or in the place of an old one, adds no more than its own bytes, and all of them are there
record Added (value : List ℕ) (ps new : List Content) : Type 0 where
  at_most : length (sequence_bytes new) ≤ length (sequence_bytes ps) + length (content_bytes (ours value))
  at_least : length (content_bytes (ours value)) ≤ length (sequence_bytes new)

one_more : (p : Content) (ps : List Content) → length (sequence_bytes (p ∷ ps)) ≡ length (content_bytes p) + length (sequence_bytes ps)
unfolding sequence_bytes
one_more p ps = length-append (content_bytes p) (sequence_bytes ps)

added-last : (value : List ℕ) (ps : List Content) → Added value ps (ps ++ (ours value ∷ []))
unfolding sequence_bytes
added-last value [] = let one = one_more (ours value) [] in record { at_most = omega (arith, one); at_least = omega (arith, one) }
added-last value (p ∷ ps) =
    let rest = added-last value ps in
    let new = one_more p (ps ++ (ours value ∷ [])) in
    let old = one_more p ps in
    record { at_most = omega (arith, new, old, rest.at_most); at_least = omega (arith, new, rest.at_least) }

added-there : (value : List ℕ) (ps : List Content) → holds_ours ps ≡ true → repeats (ids_in ps) ≡ false → Added value ps (renewed value ps)
unfolding holds_ours repeats ids_in renewed
added-there value [] h once = absurd (false≢true h)
added-there value (p ∷ ps) h once =
    let o = neither (elem p.id (ids_in ps)) (repeats (ids_in ps)) once in
    go (is_ours p) (eqb-true _ _) h o.0 (λ k. added-there value ps k o.1)
  where
    go : (b : Bool) → (b ≡ true → p.id ≡ version_information) → (b || holds_ours ps) ≡ true → elem p.id (ids_in ps) ≡ false
        → (holds_ours ps ≡ true → Added value ps (renewed value ps)) → Added value (p ∷ ps) (cond b (ours value) p ∷ renewed value ps)
    go true k h other next =
        let missing : holds_ours ps ≡ false = holds_elem ps ∙ ap (λ (v : ℕ). elem v (ids_in ps)) (sym (k refl)) ∙ other in
        let same = renewed-missing value ps missing in
        let new = one_more (ours value) (renewed value ps) in
        let stays = ap (λ (l : List Content). length (sequence_bytes l)) same in
        let old = one_more p ps in
        record { at_most = omega (arith, new, old, stays); at_least = omega (arith, new) }
    go false k h other next =
        let rest = next h in
        let new = one_more p (renewed value ps) in
        let old = one_more p ps in
        record { at_most = omega (arith, new, old, rest.at_most); at_least = omega (arith, new, rest.at_least) }

two_bytes : (n : ℕ) → n < held_below 1 → shortest_width n ≤ 2
unfolding width_of
two_bytes n h = least-width 1 n h

-- What is written has at most three bytes more than the old sequence and the value together
pub written-at-most : (old value : List ℕ) (room : ℕ) (new : List ℕ) → all_below 256 old ≡ true
    → parameters_to_write old value room ≡ answered new → length new ≤ length old + length value + 3
unfolding held_below width_of
written-at-most old value room new below e =
    let w = write_kept old value room new e in
    let kept = w.0 in
    let fits = w.1 in
    let added : Added value (contents_of old) (carrying value (contents_of old)) =
    by-holding (Added value (contents_of old)) value (contents_of old)
    (λ h. added-there value (contents_of old) h (once-of kept)) (λ h. added-last value (contents_of old)) in
    let shorter : length (shortest_form old) ≤ length old = shortest-shorter old below _ (read-answers old kept) in
    let size = ours-size value in
    let small : length value < held_below 1 = omega (arith, size, added.at_least, fits.short) in
    let width = two_bytes (length value) small in
    let same = ap length w.2 in
    omega (arith, same, added.at_most, shorter, size, width)
