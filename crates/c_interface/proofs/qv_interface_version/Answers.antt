-- `qv_interface_version` meets its contract: the constant is the version.
use mathlib.Core.Path.{refl}
use Rattle.c_interface.proofs.qv_interface_version.Goals as goal

pub returns : goal.returns
returns c = refl
