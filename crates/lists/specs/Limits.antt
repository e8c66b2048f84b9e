-- The limit of a list of versions, named once. A proof holds for the name, not for the number.
use Rattle.std.specs.Prelude.{ℕ}

-- Document 01, of a Version Negotiation packet: "at most 16,382 of them"; refusal 40: "list to choose from over 16,382
-- entries"
abbrev pub max_list : ℕ
max_list = 16382

-- Of no paper: how many entries a search compares at a time. No public promise speaks of it
abbrev pub block : ℕ
block = 64
