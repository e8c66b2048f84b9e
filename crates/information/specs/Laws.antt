-- The words of the round trips of Version Information.
use Rattle.std.specs.Prelude.{ℕ, List, ◌≡◌}
use Rattle.refusals.specs.Reply.{Reply.answered}
use Rattle.information.specs.Information.{Found, versions_in, read_information}
use Rattle.information.specs.declared.Sender.{Sender}

-- The bytes from a sender are read, as this Chosen Version and these Available Versions
pub record ReadAs (sender : Sender) (bytes : List ℕ) (chosen : ℕ) (available : List ℕ) : Type 0 where
  pub found : Found
  pub reads : read_information sender bytes ≡ answered found
  pub same_chosen : found.chosen ≡ chosen
  pub same-available : versions_in bytes found.available ≡ available
