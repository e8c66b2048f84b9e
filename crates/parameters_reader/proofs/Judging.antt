-- The exits of the reader, each by the tests before it; and what the walk tells of the rules.
use Prim.Native.Nat.{ℕ, ◌<◌, ◌≤◌}
use mathlib.Core.Bool.{Bool, true, false, cond}
use mathlib.Core.List.{List}
use mathlib.Core.Path.{◌≡◌, refl, ap, ◌∙◌}
use native.Mathlib.Omega.{arith}
use borrow.Author.Tests.{le-ltb, lt-ltb}
use lib.ListN.{length, length-take, take}
use Rattle.refusals.specs.Reply.{Reply, Reply.refused, Reply.answered, refuse, read_reply}
use Rattle.refusals.specs.declared.Call.TheVariants.{Reading}
use Rattle.std.specs.Prelude.{Result, Err}
use Rattle.refusals.specs.declared.Refusal.{Refusal}
use Rattle.parameters.specs.Items.{items_left}
use Rattle.parameters.proofs.Items.{items_all}
use Rattle.parameters.specs.Limits.{max_parameters, max_sequence}
use Rattle.parameters.specs.Reading.{carried, fields_in, read_parameters, runs_past}
use Rattle.parameters.specs.Sequence.{Field, fields_of, ids_of, repeats}
use Rattle.parameters_reader.specs.Walking.{Noted, passage_of}
use Rattle.parameters_reader.specs.declared.walk.Walked.{Walked}

pub too_long : (s : List ℕ) → max_sequence < length s → refuse Reading 80 ≡ read_parameters s
unfolding read_parameters
too_long s h = rw (lt-ltb _ _ h)

module _ (s : List ℕ) (short : length s ≤ max_sequence) where
  pub past_the_end : runs_past (fields_of s) ≡ true → refuse Reading 81 ≡ read_parameters s
  unfolding read_parameters
  past_the_end p = rw (le-ltb _ _ short, p)

  module _ (read : runs_past (fields_of s) ≡ false) where
    pub repeated : repeats (ids_of (fields_in (fields_of s))) ≡ true → refuse Reading 82 ≡ read_parameters s
    unfolding read_parameters
    repeated r = rw (le-ltb _ _ short, read, r)

    pub too_many : repeats (ids_of (fields_in (fields_of s))) ≡ false → max_parameters < length (fields_in (fields_of s))
        → refuse Reading 85 ≡ read_parameters s
    unfolding read_parameters
    too_many r h = rw (le-ltb _ _ short, read, r, lt-ltb _ _ h)

    pub all_read : repeats (ids_of (fields_in (fields_of s))) ≡ false → length (fields_in (fields_of s)) ≤ max_parameters
        → answered (carried (fields_in (fields_of s))) ≡ read_parameters s
    unfolding read_parameters
    all_read r h = rw (le-ltb _ _ short, read, r, le-ltb _ _ h)

    -- 82 is judged before 85
    pub of_many : (n : ℕ) → max_parameters < length (fields_in (fields_of s)) → n ≡ cond (repeats (ids_of (items_left s 0))) 82 85
        → refuse Reading n ≡ read_parameters s
    of_many n h e =
        let given : n ≡ cond (repeats (ids_of (fields_in (fields_of s)))) 82 85 = e ∙ ap (λ (fs : List Field). cond (repeats (ids_of fs)) 82 85) (items_all s read) in
        rw given (go (repeats (ids_of (fields_in (fields_of s)))) refl)
      where
        go : (b : Bool) → repeats (ids_of (fields_in (fields_of s))) ≡ b → refuse Reading (cond b 82 85) ≡ read_parameters s
        go true r = repeated r
        go false r = too_many r h

-- The exit of a `?`
pub refused_as : {A : Type 0} (r : Result A Refusal) (x : Refusal) (n : ℕ) → r ≡ Err x → x.0 ≡ n → read_reply r ≡ refuse Reading n
refused_as r x n e k = ap read_reply e ∙ ap (refuse Reading) k

-- What a walk tells of the parameters
pub record Told (r : Reply (List Field)) (w : Walked) (ids : List ℕ) : Type 0 where
  pub read : runs_past r ≡ false
  pub counts : w.count ≡ length (fields_in r)
  pub lies : w.value ≡ carried (fields_in r)
  pub notes : length (fields_in r) ≤ max_parameters → take (length (fields_in r)) ids ≡ ids_of (fields_in r)

pub told-past : (r : Reply (List Field)) (n : ℕ) → refuse Reading n ≡ passage_of r → (n ≡ 81) × (runs_past r ≡ true)
told-past (refused m c) n e = (cc, refl)
told-past (answered fs) n e = let z : ◌≡◌ {A = ℕ} 0 1 = cc in absurd (omega arith)

pub told-through : (r : Reply (List Field)) (w : Walked) (ids : List ℕ) → answered w ≡ passage_of r → Noted r ids → Told r w ids
unfolding Noted
told-through (refused m c) w ids e h = let z : ◌≡◌ {A = ℕ} 0 1 = cc in absurd (omega arith)
told-through (answered fs) w ids e h =
    let same : w ≡ record { count = length fs; value = carried fs } = cc in
    record { read = refl; counts = ap (λ (x : Walked). x.count) same; lies = ap (λ (x : Walked). x.value) same; notes = h }

-- A front that is as long as it was asked for
pub front-within : (n : ℕ) (xs : List ℕ) → length (take n xs) ≡ n → n ≤ length xs
front-within n xs e = omega (arith, length-take n xs, e)
