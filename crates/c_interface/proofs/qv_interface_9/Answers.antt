-- `qv_interface_9` meets its contract: the constant is the version.
use mathlib.Core.Path.{refl}
use Rattle.c_interface.proofs.qv_interface_9.Goals as goal

pub returns : goal.returns
returns c = refl
