-- What is told of the journal of any answers: the used places hold the last of them, in order, and the others hold 0.
use Prim.Native.Nat.{ℕ, ◌-◌, min}
use mathlib.Core.List.{List}
use mathlib.Core.Path.{◌≡◌, ap, ◌∙◌}
use native.Mathlib.Omega.{arith}
use lib.ListN.{length, take, drop, replicate, length-drop}
use lib.Seq.{take-append_seam, drop-append_seam}
use Rattle.journal.specs.Journals.{places, max_events, last_answers, in_places, journal_of, told_of}

module _ (xs : List ℕ) where
  used-are : min (min (length xs) max_events) places ≡ length (last_answers xs)
  unfolding last_answers
  used-are =
      let n : length (drop (length xs - places) xs) ≡ length xs - (length xs - places) = length-drop (length xs - places) xs in
      omega (arith, n)

  pub told-answers : let told = told_of (journal_of xs) in take told.used told.answers ≡ last_answers xs
  unfolding told_of journal_of
  told-answers =
      ap (λ (n : ℕ). take n (in_places (last_answers xs))) used-are ∙ take-append_seam (last_answers xs) _

  pub told-unused : let told = told_of (journal_of xs) in drop told.used told.answers ≡ drop told.used (replicate places 0)
  unfolding told_of journal_of
  told-unused = rw used-are (drop-append_seam (last_answers xs) _)
