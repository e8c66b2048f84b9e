-- `mark` meets its contract: at each exit the tests on the way say where the version's first place is.
use Prim.Native.Nat.{ℕ, ◌*◌, ◌%◌, ◌^◌, ◌≤◌}
use mathlib.Core.List.{List}
use mathlib.Core.Path.{◌≡◌, sym, ap, ◌∙◌}
use native.Mathlib.Nat.{one-mul}
use native.Mathlib.Omega.{arith}
use lib.Bits.{bit_or}
use lib.Dec.{lit<}
use lib.ListN.{length, take, length-take}
use lib.Pow.{shl_exact}
use Rattle.versions.specs.Table.{place_of}
use Rattle.versions.specs.Words.{marked, word_bits}
use Rattle.versions.proofs.Marked.{marked-nowhere, marked-at}
use Rattle.versions.proofs.Searched.{place-there, place-none}
use Rattle.versions.proofs.words.mark.Goals as goal

-- no place among the first entries
nowhere : (table : List ℕ) (v w : ℕ) → length (take word_bits table) ≤ place_of v table → w ≡ marked (take word_bits table) v w
nowhere table v w h = sym (marked-nowhere word_bits table v w h)

pub returns-in_default : goal.returns-in_default
returns-in_default c = let g = c.args in
    let none = place-none g.version g.table.now (c.in_default.ensures) in
    nowhere g.table.now g.version g.word (rw (length-take word_bits g.table.now) (omega (arith, none)))

pub returns-then-place-ge-WORD_BITS : goal.returns-then-place-ge-WORD_BITS
returns-then-place-ge-WORD_BITS c = let g = c.args in
    let at = (place-there g.version g.table.now _ (c.in-Some.ensures)).0 in
    nowhere g.table.now g.version g.word (rw (length-take word_bits g.table.now) (omega (arith, at)))

pub returns : goal.returns
returns c = let g = c.args in
    let place = c.in-Some.place in
    let found = place-there g.version g.table.now place (c.in-Some.ensures) in
    let bit : (1 * 2 ^ place) % 2 ^ word_bits ≡ 2 ^ place =
    shl_exact 1 place word_bits (lit< tt) (omega arith) ∙ one-mul (2 ^ place) in
    ap (bit_or g.word) bit ∙ rw (← found.0)
    (sym (marked-at word_bits g.table.now g.version g.word (omega (arith, found.0)) (omega (arith, found.0, found.1))))
