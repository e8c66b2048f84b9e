-- A sequence of transport parameters: RFC 9000 section 18, document 02, C-11: "identifier, length, value, the first two
-- as variable-length integers".
use Rattle.std.specs.Prelude.{ℕ, zero, suc, ◌+◌, ◌-◌, Bool, false, cond, ◌||◌, List, [], ◌∷◌, leb, ltb, length, take, drop}
use Rattle.refusals.specs.Reply.{Reply, Reply.refused, Reply.answered}
use Rattle.refusals.specs.Rule.{Rule, Rule.◌when◌, judged}
use Rattle.refusals.specs.declared.Call.TheVariants.{Reading}
use Rattle.versions.specs.Table.{elem}
use Rattle.integers.specs.Integers.{Found, read_integer}
use Rattle.lists.specs.declared.Span.{Span}
use Rattle.parameters.specs.declared.Parameter.{Parameter}

-- A parameter where it lies: its identifier, and where its value begins and ends in the sequence
abbrev pub Field : Type 0
Field = Parameter

-- "81 a field runs past the end"
abbrev pub field_rules : List ℕ → Field → List Rule
field_rules s f = (81 when ltb (length s) f.value.end) ∷ []

-- A value that begins at a place
abbrev pub behind_length : List ℕ → ℕ → ℕ → Reply Found → Reply Field
behind_length s id at (refused n c) = refused n c
behind_length s id at (answered l) =
    let f : Field = record { id = id; value = record { start = at + l.width; end = at + l.width + l.value } } in
    judged Reading (field_rules s f) (answered f)

-- Length and value, behind an identifier that ends at a place
unfoldable pub behind_id : List ℕ → ℕ → ℕ → Reply Field
behind_id s id at = behind_length s id at (read_integer (drop at s))

abbrev pub with_id : List ℕ → ℕ → Reply Found → Reply Field
with_id s at (refused n c) = refused n c
with_id s at (answered i) = behind_id s i.value (at + i.width)

-- The parameter that begins at a place
unfoldable pub field_at : List ℕ → ℕ → Reply Field
field_at s at = with_id s at (read_integer (drop at s))

abbrev pub followed_by : Field → Reply (List Field) → Reply (List Field)
followed_by f (refused n c) = refused n c
followed_by f (answered fs) = answered (f ∷ fs)

abbrev pub then_from : (ℕ → Reply (List Field)) → Reply Field → Reply (List Field)
then_from rest (refused n c) = refused n c
then_from rest (answered f) = followed_by f (rest f.value.end)

-- The parameters from a place to the end, in so many turns at the most; one turn for each byte is enough, since each
-- parameter takes two or more, and further turns change nothing (`enough_Turns`, proofs/Walk.antt)
unfoldable pub fields_from : ℕ → List ℕ → ℕ → Reply (List Field)
fields_from zero s at = answered []
fields_from (suc turns) s at = cond (leb (length s) at) (answered []) (then_from (fields_from turns s) (field_at s at))

-- All parameters of a sequence, or the refusal of the first that cannot be read
unfoldable pub fields_of : List ℕ → Reply (List Field)
fields_of s = fields_from (length s) s 0

-- The bytes of a part
abbrev pub bytes_in : List ℕ → Span → List ℕ
bytes_in s part = take (part.end - part.start) (drop part.start s)

unfoldable pub ids_of : List Field → List ℕ
ids_of [] = []
ids_of (f ∷ fs) = f.id ∷ ids_of fs

-- A number occurs twice
unfoldable pub repeats : List ℕ → Bool
repeats [] = false
repeats (x ∷ xs) = elem x xs || repeats xs
