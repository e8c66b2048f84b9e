-- Words for the contracts of src/walk.rt, which are private.
use Prim.{Unit}
use Rattle.std.specs.Prelude.{ℕ, ◌≤◌, cond, List, ◌≡◌, eqb, ltb, length, set, take}
use Rattle.std.specs.Prelude.{Option, None, Some}
use Rattle.refusals.specs.Reply.{Reply, Reply.refused, Reply.answered, refuse}
use Rattle.refusals.specs.declared.Call.TheVariants.{Reading}
use Rattle.lists.specs.declared.Span.{Span}
use Rattle.parameters.specs.Limits.{max_parameters, version_information}
use Rattle.parameters.specs.Reading.{carried}
use Rattle.parameters.specs.Sequence.{Field, ids_of}
use Rattle.parameters_reader.specs.declared.walk.Walked.{Walked}

-- What a walk tells
abbrev pub passage_of : Reply (List Field) → Reply Walked
passage_of (refused n c) = refuse Reading 81
passage_of (answered fs) = answered (record { count = length fs; value = carried fs })

-- The value of what is read at a place; none where nothing is
abbrev pub carried_there : Reply Field → Option Span
carried_there (refused n c) = None
carried_there (answered f) = Some f.value

-- The identifiers stand in the places, where there are no more of them than places
unfoldable pub Noted : Reply (List Field) → List ℕ → Type 0
Noted (refused n c) ids = Unit
Noted (answered fs) ids = length fs ≤ max_parameters → take (length fs) ids ≡ ids_of fs

abbrev pub noted : List ℕ → ℕ → ℕ → List ℕ
noted ids place id = cond (ltb place (length ids)) (set ids place id) ids

-- Where Version Information begins, with one more parameter
abbrev pub or_here : ℕ → ℕ → ℕ → ℕ → ℕ
or_here ours missing id at = cond (eqb ours missing) (cond (eqb id version_information) at missing) ours
