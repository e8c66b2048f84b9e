-- Words for the contracts of src/putting.rt and src/size.rt, which are private.
use Rattle.std.specs.Prelude.{ℕ, ◌+◌, ◌≤◌, cond, List, length}
use Rattle.integers.specs.Limits.{max_integer}
use Rattle.parameters.specs.Limits.{max_sequence}
use Rattle.parameters.specs.Items.{items_left}
use Rattle.parameters_writer.specs.declared.renewal.Renewal.{Renewal}
use Rattle.parameters.specs.Sequence.{Field}
use Rattle.parameters.specs.Writing.{Content, carrying, content_bytes, content_of, contents_in, is_ours, ours, renewed, sequence_bytes}

-- The most bytes that a parameter takes in the new sequence: two integers of 8 at the most, and a value
abbrev pub max_one : ℕ
max_one = 16 + max_sequence

-- A parameter in the new sequence: ours has the new value
abbrev pub renewed_one : List ℕ → Content → Content
renewed_one value p = cond (is_ours p) (ours value) p

-- A parameter of the old sequence, as it is in the new one
abbrev pub new_bytes : List ℕ → List ℕ → Field → List ℕ
new_bytes old value f = content_bytes (renewed_one value (content_of old f))

-- Parameters of it, one after the other
abbrev pub renewed_bytes : List ℕ → List ℕ → List Field → List ℕ
renewed_bytes old value fs = sequence_bytes (renewed value (contents_in old fs))

-- The parameters that the old sequence has
abbrev pub fields_in_old : Renewal → List Field
fields_in_old r = items_left r.old.sequence.now r.old.at

-- Their bytes in the new sequence
abbrev pub renewed_old : Renewal → List ℕ
renewed_old r = renewed_bytes r.old.sequence.now r.value.now (fields_in_old r)

-- The new sequence
abbrev pub new_contents : Renewal → List Content
new_contents r = carrying r.value.now (contents_in r.old.sequence.now (fields_in_old r))

abbrev pub new_sequence : Renewal → List ℕ
new_sequence r = sequence_bytes (new_contents r)

-- A parameter of a sequence that can be written
pub record CanBeWritten (old : List ℕ) (f : Field) : Type 0 where
  pub small : f.id ≤ max_integer
  pub in_order : f.value.start ≤ f.value.end
  pub ends : f.value.end ≤ length old
