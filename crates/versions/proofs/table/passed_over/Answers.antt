-- `passed_over`: a group without the version is passed over.
use mathlib.Core.Bool.{false}
use mathlib.Core.Path.{◌≡◌, refl, sym, ap, ◌∙◌}
use Prim.Native.Nat.{ℕ, ◌+◌, ◌-◌, ◌*◌, ◌/◌, ◌≤◌}
use native.Mathlib.Nat.{zero-add}
use native.Mathlib.Omega.{arith}
use lib.ListN.{length, take, drop}
use Rattle.versions.specs.Table.{elem, place_of}
use Rattle.versions.proofs.Lists.{place-past}
use Rattle.versions.proofs.table.passed_over.Invariants.{group}
use Rattle.versions.proofs.table.passed_over.Goals as goal

pub loop-i-init : goal.loop-i-init
loop-i-init c = (refl, sym (zero-add _))

pub returns-then-contains-clause-searched : goal.returns-then-contains-clause-searched
returns-then-contains-clause-searched c = c.loop-i.invariant.1

pub loop-i-preserved : goal.loop-i-preserved
loop-i-preserved c =
    let list = c.args.list.now in
    let from : ℕ = c.loop-i.i * group in
    let inside : from + group ≤ length list = omega arith in
    let width : from + group - from ≡ group = omega arith in
    let absent : elem c.args.version (take group (drop from list)) ≡ false =
    ap (λ n. elem c.args.version (take n (drop from list))) (sym width) ∙ sym c.contains.ensures ∙ c.if-contains.false in
    let turn : from + group ≡ (c.loop-i.i + 1) * group = omega arith in (
      refl,
      c.loop-i.invariant.1 ∙ place-past c.args.version from group list inside absent
          ∙ ap (λ n. n + place_of c.args.version (drop n list)) turn,
    )

pub returns-clause-searched : goal.returns-clause-searched
returns-clause-searched c =
    let end : c.loop-i.i ≡ length c.args.list.now / group = omega arith in
    c.loop-i.invariant.1 ∙ ap (λ n. n * group + place_of c.args.version (drop (n * group) c.args.list.now)) end
