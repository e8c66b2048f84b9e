-- The numbers of the rules of Version Information rise, so the lowest that applies is given.
use Prim.Native.Nat.{ℕ}
use mathlib.Core.Bool.{true}
use mathlib.Core.List.{List, ◌++◌}
use mathlib.Core.Path.{◌≡◌, refl}
use Rattle.refusals.specs.Rule.{rising}
use Rattle.information.specs.Information.{chosen_of, available_of, form_rules, sender_rules, write_rules}
use Rattle.information.specs.declared.Sender.{Sender}

-- 31 to 35
pub form-rises : (bytes : List ℕ) → rising (form_rules bytes) ≡ true
form-rises bytes = refl

-- 31 to 36, which the reader judges
pub read-rises : (sender : Sender) (bytes : List ℕ) →
    rising (form_rules bytes ++ sender_rules sender (chosen_of bytes) (available_of bytes)) ≡ true
read-rises sender bytes = refl

-- 33 to 37, which the writer judges
pub write-rises : (sender : Sender) (chosen : ℕ) (available : List ℕ) (room : ℕ) →
    rising (write_rules sender chosen available room) ≡ true
write-rises sender chosen available room = refl
