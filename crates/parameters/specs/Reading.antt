-- The reader of a sequence: document 02, C-11.
use Rattle.std.specs.Prelude.{ℕ, Bool, true, false, cond, List, [], ◌∷◌, eqb, ltb, length}
use Rattle.std.specs.Prelude.{Option, None, Some}
use Rattle.refusals.specs.Reply.{Reply, Reply.refused, Reply.answered}
use Rattle.refusals.specs.Rule.{Rule, Rule.◌when◌, judged}
use Rattle.refusals.specs.declared.Call.TheVariants.{Reading}
use Rattle.lists.specs.declared.Span.{Span}
use Rattle.parameters.specs.Limits.{max_sequence, max_parameters, version_information}
use Rattle.parameters.specs.Sequence.{Field, fields_of, ids_of, repeats}

-- "81 a field runs past the end"
abbrev pub runs_past : Reply (List Field) → Bool
runs_past (refused n c) = true
runs_past (answered fs) = false

-- The parameters; none where a field runs past the end
abbrev pub fields_in : Reply (List Field) → List Field
fields_in (refused n c) = []
fields_in (answered fs) = fs

-- "a sequence over 16,384 bytes is an 80"; "81 a field runs past the end, 82 an identifier occurs twice"; "At most 64
-- parameters, else 85"; "lowest first"
abbrev pub sequence_rules : List ℕ → List Rule
sequence_rules s =
    (80 when ltb max_sequence (length s)) ∷
    (81 when runs_past (fields_of s)) ∷
    (82 when repeats (ids_of (fields_in (fields_of s)))) ∷
    (85 when ltb max_parameters (length (fields_in (fields_of s)))) ∷
    []

-- "where our value lies, or that it is missing"; "unknown ones are stepped over"
unfoldable pub carried : List Field → Option Span
carried [] = None
carried (f ∷ fs) = cond (eqb f.id version_information) (Some f.value) (carried fs)

unfoldable pub read_parameters : List ℕ → Reply (Option Span)
read_parameters s = judged Reading (sequence_rules s) (answered (carried (fields_in (fields_of s))))
