-- Reserved numbers to send beside a list of versions (RFC 9000 sections 6.3 and 15).
use Rattle.std.specs.Prelude.{ℕ, Bool, true, not, ◌&&◌, List, [], ◌∷◌, leb, length}
use Rattle.versions.specs.Limits.{max_reserved}
use Rattle.versions.specs.Table.{elem}
use Rattle.versions.specs.Version.{reserved}
use Rattle.versions.specs.Words.{entries_where}

-- Each is reserved, none is there twice
unfoldable pub each_reserved : List ℕ → Bool
each_reserved [] = true
each_reserved (v ∷ vs) = (reserved v && not (elem v vs)) && each_reserved vs

-- Document 02, C-18: "up to four distinct reserved numbers". The rule is broken where "a number is not reserved, ..
-- repeated, or there are over four"
unfoldable pub reserved_keep_rule : List ℕ → Bool
reserved_keep_rule numbers = leb (length numbers) max_reserved && each_reserved numbers

-- A version is not reserved
abbrev pub not_reserved : ℕ → Bool
not_reserved v = not (reserved v)

-- A list of versions without its reserved numbers, in its order
abbrev pub without_reserved : List ℕ → List ℕ
without_reserved vs = entries_where not_reserved vs
