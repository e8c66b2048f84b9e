-- `few_repeat`: no number before a place occurs twice, or the answer is there.
use Prim.Native.Nat.{ℕ, ◌+◌, ◌<◌}
use mathlib.Core.Bool.{Bool, true, false, ◌||◌}
use mathlib.Core.List.{List, [], ◌∷◌}
use mathlib.Core.Path.{◌≡◌, refl, sym, ap, ◌∙◌}
use native.Mathlib.Numerals.{add-one}
use lib.ListN.{length, drop, get_or, take, take-append-drop}
use lib.Seq.{take-suc}
use lib.Dec.{eqb}
use Rattle.std.specs.List.{list_any}
use Rattle.versions.specs.Table.{elem}
use Rattle.parameters.specs.Sequence.{repeats}
use Rattle.parameters_reader.proofs.Twice.{repeats-front, repeats-snoc}
use Rattle.parameters_reader.proofs.identifiers.few_repeat.Goals as goal

-- One more number
next-number : (ids : List ℕ) (i : ℕ) (found : Bool) → i < length ids → repeats (take i ids) ≡ false
    → found ≡ elem (get_or ids i 0) (take i ids) → repeats (take (i + 1) ids) ≡ found
next-number ids i found h none e =
    ap (λ (k : ℕ). repeats (take k ids)) (add-one i) ∙ ap repeats (take-suc ids i 0 h) ∙ repeats-snoc (take i ids) (get_or ids i 0)
    ∙ ap (λ (b : Bool). b || elem (get_or ids i 0) (take i ids)) none ∙ sym e

-- A part that has one twice
in_whole : (ids : List ℕ) (i : ℕ) → repeats (take i ids) ≡ true → repeats ids ≡ true
in_whole ids i h = ap repeats (sym (take-append-drop i ids)) ∙ repeats-front (take i ids) (drop i ids) h

pub loop-i-init : goal.loop-i-init
unfolding repeats
loop-i-init c = refl

-- `contains` asks for the same number
any-elem : (x : ℕ) (xs : List ℕ) → list_any (λ y. eqb y x) xs ≡ elem x xs
unfolding elem
any-elem x [] = refl
any-elem x (y ∷ ys) = ap (λ (b : Bool). eqb y x || b) (any-elem x ys)

pub returns-then-contains : goal.returns-then-contains
returns-then-contains c =
    let i = c.loop-i.i in
    let ids = c.args.ids.now in
    let e : c.contains.result ≡ elem (get_or ids i 0) (take i ids) = c.contains.ensures.value ∙ any-elem (get_or ids i 0) (take i ids) in
    sym (in_whole ids (i + 1) (next-number ids i c.contains.result c.loop-i-test.true c.loop-i.invariant e ∙ c.if-contains.true))

pub loop-i-preserved : goal.loop-i-preserved
loop-i-preserved c =
    let i = c.loop-i.i in
    let ids = c.args.ids.now in
    let e : c.contains.result ≡ elem (get_or ids i 0) (take i ids) = c.contains.ensures.value ∙ any-elem (get_or ids i 0) (take i ids) in
    next-number ids i c.contains.result c.loop-i-test.true c.loop-i.invariant e ∙ c.if-contains.false
