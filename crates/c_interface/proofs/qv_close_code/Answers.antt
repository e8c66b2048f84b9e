-- `qv_close_code` meets its contract: a number over a byte has no code, whatever the kind of call.
use Prim.Native.Nat.{ℕ, ◌<◌}
use mathlib.Core.Path.{◌≡◌, refl, sym, ap, ◌∙◌}
use Rattle.refusals.specs.Close.{close_of}
use Rattle.refusals.specs.declared.Call.{Call}
use Rattle.refusals.specs.declared.Call.TheVariants.{Reading, Writing}
use Rattle.refusals.proofs.Codes.{over-a-byte}
use Rattle.c_interface.specs.Numbers.{close_number, code_for}
use Rattle.c_interface.proofs.qv_close_code.Goals as goal

code-over : (refusal : ℕ) (call : Call) → 255 < refusal → 0 ≡ close_number (close_of refusal call)
unfolding close_of
code-over refusal Reading h = sym (ap close_number (over-a-byte refusal h))
code-over refusal Writing h = refl

pub returns-then-refusal-gt255 : goal.returns-then-refusal-gt255
returns-then-refusal-gt255 c =
    code-over c.args.refusal c.in-Some.kind c.if-refusal-gt255.true ∙
    ap (code_for c.args.refusal) (sym c.in-Some.is ∙ c.named.ensures)
