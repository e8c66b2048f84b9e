-- The laws of choice. Demand 3: "the choice from two lists joined is the choice from the two choices; order,
-- repeats and numbers that the table does not hold never change the answer; an empty list adds nothing, on
-- either side". Document 01: "each list, joined or not, keeps within 40, and a 42 counts as an empty choice".
-- The table may be any list: where it breaks its rule every choice is a 41, and the laws hold too.
use Prim.Native.Nat.{ℕ, suc, ◌≤◌}
use native.Mathlib.Nat.{ℕ_set}
use native.Mathlib.Omega.{arith}
use mathlib.Core.Bool.{Bool, true, false, cond, ◌||◌, or-true, false≢true, Bool-set}
use mathlib.Core.List.{List, [], ◌∷◌, ◌++◌, append-nil}
use Rattle.std.specs.Prelude.{option_to_list}
use mathlib.Core.List.{Perm, Permᴰ}
use mathlib.Core.Logic.{∥∥₁_elim}
use Rattle.std.specs.Prelude.{Option, None, Some}
use Rattle.std.proofs.lemmas.Option.{same_Some, none-some}
use mathlib.Core.Path.{◌≡◌, refl, sym, ap, ◌∙◌}
use borrow.Author.Tests.{eq-eqb, eqb-true, le-ltb}
use lib.Dec.{eqb}
use lib.ListN.{length, length-append}
use Rattle.refusals.specs.Reply.{Reply, Reply.refused, Reply.answered}
use Rattle.choosing.specs.Choice.{choose, preferred, or_nothing_in_common}
use Rattle.choosing.specs.Laws.{SameHeld, choice_list}
use Rattle.lists.specs.Limits.{max_list}
use Rattle.versions.specs.Table.{elem, table_keeps_rule}
use Rattle.versions.proofs.Lists.{elem-append}
use Rattle.choosing.proofs.Chosen.{bad-table}
use Rattle.choosing.proofs.Judged.{judged-clear}

-- What a list holds

or_swap : (p q r : Bool) → (p || (q || r)) ≡ (q || (p || r))
or_swap true true r = refl
or_swap true false r = refl
or_swap false q r = refl

-- a test that implies the other adds nothing
or-implied : (p q : Bool) → (p ≡ true → q ≡ true) → (p || q) ≡ q
or-implied true q h = sym (h refl)
or-implied false q h = refl

-- A number put in at any place counts as one put in front
pub elem-inserted : (w v : ℕ) (xs ys : List ℕ) → elem w (xs ++ v ∷ ys) ≡ elem w (v ∷ (xs ++ ys))
unfolding elem
elem-inserted w v [] ys = refl
elem-inserted w v (x ∷ xs) ys =
    rw (elem-inserted w v xs ys) (or_swap (eqb x w) (eqb v w) (elem w (xs ++ ys)))

elem-front : (v : ℕ) (l : List ℕ) → elem v (v ∷ l) ≡ true
unfolding elem
elem-front v l = rw (eq-eqb v v refl)

elem-later : (v x : ℕ) (l : List ℕ) → elem v l ≡ true → elem v (x ∷ l) ≡ true
unfolding elem
elem-later v x l h = rw (h, or-true (eqb x v))

elem-reordered : (v : ℕ) {a b : List ℕ} → Permᴰ a b → elem v a ≡ elem v b
unfolding elem
elem-reordered v Permᴰ.nil = refl
elem-reordered v (Permᴰ.cons e d) = rw (e, elem-reordered v d)
elem-reordered v (Permᴰ.swap {a = x} {b = y} {l = l} e f) =
    rw (← e, ← f) (or_swap (eqb x v) (eqb y v) (elem v l))
elem-reordered v (Permᴰ.trans d e) = elem-reordered v d ∙ elem-reordered v e

length-reordered : {a b : List ℕ} → Permᴰ a b → length a ≡ length b
length-reordered Permᴰ.nil = refl
length-reordered (Permᴰ.cons e d) = ap suc (length-reordered d)
length-reordered (Permᴰ.swap e f) = refl
length-reordered (Permᴰ.trans d e) = length-reordered d ∙ length-reordered e

-- What is preferred

-- It is an entry of the table and of the list
pub preferred-held : (t l : List ℕ) (v : ℕ) → preferred t l ≡ Some v → (elem v t ≡ true) × (elem v l ≡ true)
unfolding preferred
preferred-held [] l v h = absurd (none-some v h)
preferred-held (x ∷ t) l v h = go (elem x l) refl h (preferred-held t l v)
  where
    go : (b : Bool) → elem x l ≡ b → cond b (Some x) (preferred t l) ≡ Some v →
        (preferred t l ≡ Some v → (elem v t ≡ true) × (elem v l ≡ true)) →
        (elem v (x ∷ t) ≡ true) × (elem v l ≡ true)
    go true e h ih = let q : x ≡ v = same_Some x v h in rw (← q) (elem-front x t, e)
    go false e h ih = (elem-later v x t (ih h).0, (ih h).1)

-- It depends only on which entries of the table the list holds
pub preferred-by-membership : (t a b : List ℕ) → SameHeld t a b → preferred t a ≡ preferred t b
unfolding preferred
preferred-by-membership [] a b same = refl
preferred-by-membership (v ∷ t) a b same =
    rw
    (same v (elem-front v t), preferred-by-membership t a b (λ w h. same w (elem-later w v t h)))

-- A number that the list does not hold is not preferred
preferred-absent : (t l : List ℕ) (v : ℕ) → elem v l ≡ false → elem v (option_to_list (preferred t l)) ≡ false
unfolding elem
preferred-absent t l v absent = go (preferred t l) refl
  where
    other : (w : ℕ) → preferred t l ≡ Some w → (b : Bool) → eqb w v ≡ b → b ≡ false
    other w e true q = sym (preferred-held t l v (e ∙ ap Some (eqb-true w v q))).1 ∙ absent
    other w e false q = refl

    go : (o : Option ℕ) → preferred t l ≡ o → elem v (option_to_list o) ≡ false
    go None e = refl
    go (Some w) e = rw (other w e (eqb w v) refl)

-- From two lists joined: what is preferred of the two preferred
pub preferred-joined : (t a b : List ℕ) →
    preferred t (a ++ b) ≡ preferred t (option_to_list (preferred t a) ++ option_to_list (preferred t b))
unfolding preferred elem
preferred-joined [] a b = refl
preferred-joined (v ∷ t) a b =
    rw (elem-append v a b) (go (elem v a) (elem v b) refl refl (preferred-joined t a b))
  where
    of-a : List ℕ
    of-a = option_to_list (preferred t a)

    of-b : List ℕ
    of-b = option_to_list (preferred t b)

    go : (p q : Bool) → elem v a ≡ p → elem v b ≡ q → preferred t (a ++ b) ≡ preferred t (of-a ++ of-b) →
        cond (p || q) (Some v) (preferred t (a ++ b)) ≡
        preferred (v ∷ t)
        (option_to_list (cond p (Some v) (preferred t a)) ++ option_to_list (cond q (Some v) (preferred t b)))
    go true true ea eb ih = rw (eq-eqb v v refl)
    go true false ea eb ih = rw (eq-eqb v v refl)
    go false true ea eb ih = rw (elem-inserted v v of-a [], eq-eqb v v refl)
    go false false ea eb ih =
        rw (elem-append v of-a of-b, preferred-absent t a v ea, preferred-absent t b v eb) ih

-- What is chosen

-- By a table that keeps its rule, from a list within the limit: what is preferred
pub choose-preferred : (t l : List ℕ) → table_keeps_rule t ≡ true → length l ≤ max_list →
    choose t l ≡ or_nothing_in_common (preferred t l)
unfolding choose
choose-preferred t l keeps fits = judged-clear t l (or_nothing_in_common (preferred t l)) fits keeps

-- "order, repeats and numbers that the table does not hold never change the answer", as one law: nothing counts
-- but which entries of the table the list holds
pub choice-by-membership : (t a b : List ℕ) → length a ≤ max_list → length b ≤ max_list → SameHeld t a b →
    choose t a ≡ choose t b
unfolding choose
choice-by-membership t a b fits-a fits-b same =
    rw (
      le-ltb max_list (length a) fits-a,
      le-ltb max_list (length b) fits-b,
      preferred-by-membership t a b same,
    )

-- Order: `Perm` is mathlib's permutation of lists. No limit is asked, since both lists have the same length
pub choice-reordered : (t a b : List ℕ) → Perm a b → choose t a ≡ choose t b
unfolding choose
choice-reordered t a b p = rw (lengths, preferred-by-membership t a b (λ v _. holds v))
  where
    lengths : length a ≡ length b
    lengths = ∥∥₁_elim p (ℕ_set (length a) (length b)) length-reordered

    holds : (v : ℕ) → elem v a ≡ elem v b
    holds v = ∥∥₁_elim p (Bool-set (elem v a) (elem v b)) (elem-reordered v)

-- A number put in at any place, which the list holds already if the table holds it. The limit is asked of the
-- longer list
choice-inserted : (t xs ys : List ℕ) (v : ℕ) → (elem v t ≡ true → elem v (xs ++ ys) ≡ true) →
    length (xs ++ v ∷ ys) ≤ max_list → choose t (xs ++ v ∷ ys) ≡ choose t (xs ++ ys)
unfolding elem
choice-inserted t xs ys v held fits = choice-by-membership t (xs ++ v ∷ ys) (xs ++ ys) fits shorter same
  where
    shorter : length (xs ++ ys) ≤ max_list
    shorter = omega (arith, fits, length-append xs (v ∷ ys), length-append xs ys)

    same : SameHeld t (xs ++ v ∷ ys) (xs ++ ys)
    same w in_table =
        elem-inserted w v xs ys ∙
        or-implied (eqb v w) (elem w (xs ++ ys))
        (λ e. let q : v ≡ w = eqb-true v w e in rw (← q) (held (rw q in_table)))

-- Repeats
pub choice-repeated : (t xs ys : List ℕ) (v : ℕ) → elem v (xs ++ ys) ≡ true →
    length (xs ++ v ∷ ys) ≤ max_list → choose t (xs ++ v ∷ ys) ≡ choose t (xs ++ ys)
choice-repeated t xs ys v held fits = choice-inserted t xs ys v (λ _. held) fits

-- Numbers that the table does not hold
pub choice-not-in-table : (t xs ys : List ℕ) (v : ℕ) → elem v t ≡ false →
    length (xs ++ v ∷ ys) ≤ max_list → choose t (xs ++ v ∷ ys) ≡ choose t (xs ++ ys)
choice-not-in-table t xs ys v absent fits =
    choice-inserted t xs ys v (λ held. absurd (false≢true (sym absent ∙ held))) fits

-- "an empty list adds nothing, on either side"
pub choice-empty-left : (t l : List ℕ) → choose t ([] ++ l) ≡ choose t l
choice-empty-left t l = refl

pub choice-empty-right : (t l : List ℕ) → choose t (l ++ []) ≡ choose t l
choice-empty-right t l = ap (choose t) (append-nil l)

-- two choices are two entries at most
choices-fit : (a b : Reply ℕ) → length (choice_list a ++ choice_list b) ≤ max_list
choices-fit (refused n c) (refused m d) = omega arith
choices-fit (refused n c) (answered w) = omega arith
choices-fit (answered v) (refused m d) = omega arith
choices-fit (answered v) (answered w) = omega arith

choice_list-preferred : (o : Option ℕ) → choice_list (or_nothing_in_common o) ≡ option_to_list o
choice_list-preferred None = refl
choice_list-preferred (Some v) = refl

-- "the choice from two lists joined is the choice from the two choices"
pub choice-joined : (t a b : List ℕ) → length (a ++ b) ≤ max_list →
    choose t (a ++ b) ≡ choose t (choice_list (choose t a) ++ choice_list (choose t b))
choice-joined t a b fits = go (table_keeps_rule t) refl
  where
    chosen : List ℕ
    chosen = choice_list (choose t a) ++ choice_list (choose t b)

    chosen-fits : length chosen ≤ max_list
    chosen-fits = choices-fit (choose t a) (choose t b)

    listed : (l : List ℕ) → table_keeps_rule t ≡ true → length l ≤ max_list →
        choice_list (choose t l) ≡ option_to_list (preferred t l)
    listed l keeps within = rw (choose-preferred t l keeps within) (choice_list-preferred (preferred t l))

    go : (k : Bool) → table_keeps_rule t ≡ k → choose t (a ++ b) ≡ choose t chosen
    go true keeps =
        rw (
          choose-preferred t (a ++ b) keeps fits,
          choose-preferred t chosen keeps chosen-fits,
          listed a keeps (omega (arith, fits, length-append a b)),
          listed b keeps (omega (arith, fits, length-append a b)),
          preferred-joined t a b,
        )
    go false breaks = bad-table t (a ++ b) fits breaks ∙ sym (bad-table t chosen chosen-fits breaks)
