-- `put_parameter`: the identifier, the length and the value are put one behind the other.
use Prim.Native.Nat.{ℕ, ◌+◌, ◌≤◌}
use mathlib.Core.List.{List, ◌++◌, append_assoc}
use mathlib.Core.Path.{refl, ap, ◌∙◌}
use lib.ListN.{length}
use Rattle.refusals.specs.Reply.{Reply.answered}
use Rattle.refusals.specs.Written.{leaves}
use Rattle.integers.specs.Integers.{shortest_bytes}
use Rattle.lists.proofs.Places.{part_from, put_from, values_put}
use Rattle.parameters_writer.proofs.Runs.{Begins, begins-more, begins-room, integer-put, never-refused, room_for}
use Rattle.parameters_writer.proofs.putting.put_parameter.Goals.{After-put_values, In-Ok, In-Ok-write_integer, Start}
use Rattle.parameters_writer.proofs.putting.put_parameter.Goals as goal

-- There is room for all
rooms : (c : Start)
    → (length (shortest_bytes c.args.id) ≤ length c.args.buffer.now)
    × (length ((shortest_bytes c.args.id) ++ (shortest_bytes (length c.args.value.now))) ≤ length c.args.buffer.now)
    × (length (((shortest_bytes c.args.id) ++ (shortest_bytes (length c.args.value.now))) ++ c.args.value.now) ≤ length c.args.buffer.now)
rooms c = room_for (shortest_bytes c.args.id) (shortest_bytes (length c.args.value.now)) c.args.value.now c.args.buffer.now c.requires.room

pub returns-in_default : goal.returns-in_default
returns-in_default c = let call = c.write_integer in
    absurd
    (never-refused c.args.id c.args.buffer.now c.requires.written.0 (rooms (goal.at.returns-in_default c).Start).0 call.result _ call.ensures.answer c.in_default.is)

-- The identifier is put
id-put : (c : In-Ok)
    → Begins c.args.buffer.now (shortest_bytes c.args.id) (c.write_integer.new.buffer) c.in-Ok.first
id-put c =
    let call = c.write_integer in
    integer-put c.args.id c.args.buffer.now c.requires.written.0 (rooms (goal.at.In-Ok c).Start).0 call.result _ _ call.ensures.answer c.in-Ok.is
    call.ensures.left

-- The rest has room for the length
length-room : (c : In-Ok)
    → length (shortest_bytes (length c.args.value.now)) ≤ length (part_from c.in-Ok.first (c.write_integer.new.buffer))
length-room c =
    begins-room c.args.buffer.now (shortest_bytes c.args.id) _ _ (id-put c) (shortest_bytes (length c.args.value.now)) (rooms (goal.at.In-Ok c).Start).1

pub returns-in_default-write_integer : goal.returns-in_default-write_integer
returns-in_default-write_integer c = let call = c.write_integer-2 in
    absurd
    (never-refused (length c.args.value.now) (part_from c.in-Ok.first (c.write_integer.new.buffer)) c.requires.written.1 (length-room (goal.at.returns-in_default-write_integer c).In-Ok) call.result _
    call.ensures.answer c.in_default-write_integer.is)

-- Behind it the length is put
length-put : (c : In-Ok-write_integer)
    → Begins c.args.buffer.now ((shortest_bytes c.args.id) ++ (shortest_bytes (length c.args.value.now))) (put_from c.in-Ok.first (c.write_integer.new.buffer) c.write_integer-2.new.buffer)
    (c.in-Ok.first + c.in-Ok-write_integer.second)
length-put c =
    let call = c.write_integer-2 in
    let put =
    integer-put (length c.args.value.now) (part_from c.in-Ok.first (c.write_integer.new.buffer)) c.requires.written.1 (length-room (goal.at.In-Ok-write_integer c).In-Ok)
    call.result _ _ call.ensures.answer
    c.in-Ok-write_integer.is call.ensures.left in
    begins-more c.args.buffer.now (shortest_bytes c.args.id) _ _ (id-put (goal.at.In-Ok-write_integer c).In-Ok) (shortest_bytes (length c.args.value.now)) _ _ put.counts put.left

-- and there is room for the value
value-room : (c : In-Ok-write_integer) → let start = c.in-Ok.first + c.in-Ok-write_integer.second in
    length c.args.value.now ≤ length (part_from start (put_from c.in-Ok.first (c.write_integer.new.buffer) c.write_integer-2.new.buffer))
value-room c =
    begins-room c.args.buffer.now ((shortest_bytes c.args.id) ++ (shortest_bytes (length c.args.value.now))) _ _
    (length-put c) c.args.value.now (rooms (goal.at.In-Ok-write_integer c).Start).2

-- Behind both the value is put
all-put : (c : After-put_values) → let start = c.in-Ok.first + c.in-Ok-write_integer.second in
    Begins c.args.buffer.now (((shortest_bytes c.args.id) ++ (shortest_bytes (length c.args.value.now))) ++ c.args.value.now)
    (put_from start (put_from c.in-Ok.first (c.write_integer.new.buffer) c.write_integer-2.new.buffer) c.put_values.new.places) (start + length c.args.value.now)
all-put c =
    let at = (goal.at.After-put_values c).In-Ok-write_integer in
    begins-more c.args.buffer.now ((shortest_bytes c.args.id) ++ (shortest_bytes (length c.args.value.now))) _ _ (length-put at) c.args.value.now _ _ refl
    (c.put_values.ensures.left ∙ values_put c.args.value.now _ (value-room at))

pub returns : goal.returns
returns c = let whole = append_assoc (shortest_bytes c.args.id) (shortest_bytes (length c.args.value.now)) c.args.value.now in
    let all = all-put (goal.at.returns c).After-put_values in
    record {
      count = all.counts ∙ ap length whole;
      left = all.left ∙ ap (λ (l : List ℕ). leaves (answered l) c.args.buffer.now) whole;
    }
