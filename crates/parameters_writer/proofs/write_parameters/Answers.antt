-- `write_parameters`: the reader judges the old sequence, and tells whether ours goes last.
use mathlib.Core.Path.{refl, ◌∙◌}
use native.Mathlib.Omega.{arith}
use lib.ListN.{length}
use Rattle.std.proofs.lemmas.Result.{err_from_is_err_and}
use Rattle.parameters_writer.proofs.Judging.{none-there, old-read, old-refused, old-short}
use Rattle.parameters_writer.proofs.write_parameters.Goals as goal

pub returns-in_err-read_parameters : goal.returns-in_err-read_parameters
returns-in_err-read_parameters c =
    let args = c.args in
    let e = err_from_is_err_and c.from_residual.result c.from_residual.ensures.1 in
    rw (old-refused args.old.now args.value.now (length args.buffer.now) _ c.in_err-read_parameters.ensures, e.1, e.2) (record { answer = refl; left = refl })

pub returns-in_err-old : goal.returns-in_err-old
returns-in_err-old c =
    let short = old-short c.args.old.now (old-read c.args.old.now _ c.in_ok-read_parameters.ensures).0 in
    let long = c.in_err-old.ensures in
    absurd (omega (arith, short, long.1))

pub write_new-requires : goal.write_new-requires
write_new-requires c =
    let read = old-read c.args.old.now _ c.in_ok-read_parameters.ensures in
    rw c.in_ok-old.ensures.0
    (record { start = c.in_ok-old.ensures.1; read = read.0; last = none-there _ _ c.is_none-last.ensures ∙ read.1 })
