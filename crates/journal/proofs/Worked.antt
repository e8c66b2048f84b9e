-- Journals, computed: none, one, eight and nine answers; the count near its stop, which no test reaches by events; what is
-- told.
use Prim.Native.Nat.{ℕ}
use mathlib.Core.List.{List, [], ◌∷◌, ◌++◌}
use mathlib.Core.Path.{◌≡◌, refl}
use Rattle.journal.specs.Journals.{last_answers, journal_of, note_of, told_of}
use Rattle.journal.specs.declared.Told.{Told}
use Rattle.journal.proofs.Notes.{journal}

-- Eight answers
abbrev eight_answers : List ℕ
eight_answers = 61 ∷ 62 ∷ 63 ∷ 64 ∷ 0 ∷ 62 ∷ 0 ∷ 75 ∷ []

-- Those without the oldest, and 61
abbrev shifted : List ℕ
shifted = 62 ∷ 63 ∷ 64 ∷ 0 ∷ 62 ∷ 0 ∷ 75 ∷ 61 ∷ []

abbrev told : List ℕ → ℕ → ℕ → Told
told answers used count = record { answers = answers; used = used; count = count }

pub record Journals : Type 0 where
  pub of_none : journal_of [] ≡ journal (0 ∷ 0 ∷ 0 ∷ 0 ∷ 0 ∷ 0 ∷ 0 ∷ 0 ∷ []) 0
  pub of_two : journal_of (61 ∷ 0 ∷ []) ≡ journal (61 ∷ 0 ∷ 0 ∷ 0 ∷ 0 ∷ 0 ∷ 0 ∷ 0 ∷ []) 2
  pub of-eight : journal_of eight_answers ≡ journal eight_answers 8
  pub of-nine : journal_of (eight_answers ++ (61 ∷ [])) ≡ journal shifted 9
  -- "oldest first": the second answer behind the first
  pub second : note_of (journal_of (61 ∷ [])) 64 ≡ journal (61 ∷ 64 ∷ 0 ∷ 0 ∷ 0 ∷ 0 ∷ 0 ∷ 0 ∷ []) 2
  pub eighth : note_of (journal (1 ∷ 2 ∷ 3 ∷ 4 ∷ 5 ∷ 6 ∷ 7 ∷ 0 ∷ []) 7) 61 ≡ journal (1 ∷ 2 ∷ 3 ∷ 4 ∷ 5 ∷ 6 ∷ 7 ∷ 61 ∷ []) 8
  pub ninth : note_of (journal eight_answers 8) 61 ≡ journal shifted 9
  -- "stopping at 4,294,967,295 while the answers go on"
  pub to-the-stop : note_of (journal eight_answers 4294967294) 61 ≡ journal shifted 4294967295
  pub at-the-stop : note_of (journal eight_answers 4294967295) 61 ≡ journal shifted 4294967295
  pub three-told : told_of (journal (61 ∷ 0 ∷ 75 ∷ 0 ∷ 0 ∷ 0 ∷ 0 ∷ 0 ∷ []) 3) ≡ told (61 ∷ 0 ∷ 75 ∷ 0 ∷ 0 ∷ 0 ∷ 0 ∷ 0 ∷ []) 3 3
  pub nine-told : told_of (journal shifted 9) ≡ told shifted 8 9

pub journals : Journals
unfolding journal_of last_answers note_of told_of
journals =
    record {
      of_none = refl;
      of_two = refl;
      of-eight = refl;
      of-nine = refl;
      second = refl;
      eighth = refl;
      ninth = refl;
      to-the-stop = refl;
      at-the-stop = refl;
      three-told = refl;
      nine-told = refl;
    }
