-- Worked calls of document 01, "Calls from both sides of the line", and the order of the server's answers. Each is
-- computed from the definitions alone.
use Prim.Native.Nat.{ℕ}
use mathlib.Core.List.{List, [], ◌∷◌}
use mathlib.Core.Path.{◌≡◌, refl}
use lib.ListN.{replicate}
use Rattle.refusals.specs.Reply.{Reply, Reply.answered, refuse}
use Rattle.refusals.specs.declared.Call.TheVariants.{Reading}
use Rattle.versions.specs.Pairs.{paired, pair_keeps_rule, each_pair_keeps_rule, pairs_keep_rule}
use Rattle.versions.specs.Table.{elem, entries_keep_rule, table_keeps_rule}
use Rattle.versions.specs.Version.{reserved, usable}
use Rattle.lists.specs.Wire.{entries, list_bytes}
use Rattle.information.specs.Information.{information_bytes}
use Rattle.information.specs.Presence.{Presence.Missing, Presence.Given}
use Rattle.server.specs.FirstFlight.{Act, Act.negotiate, Act.use-version, may_use, first_accepted, decide}

-- The server reads 3. It accepts a table, has pairs, and a first flight of version 3 comes with given information
abbrev reads-3 : List ℕ → List (List ℕ) → List ℕ → Reply Act
reads-3 accepted pairs information = decide (3 ∷ []) accepted pairs [] 3 Given information

-- "client Chosen 3, Available 3, 4"
abbrev pub client : List ℕ
client = information_bytes 3 (3 ∷ 4 ∷ [])

-- "Box reads 3, accepts 4, 3; client Chosen 3, Available 3, 4: with pair 3 to 4 it answers 4, with pair 4 to 3 or
-- none it answers 3. Accepting 4 alone with no pair: negotiate."
pub record ServerCalls : Type 0 where
  pub paired-on : reads-3 (4 ∷ 3 ∷ []) ((3 ∷ 4 ∷ []) ∷ []) client ≡ answered (use-version 4)
  pub paired-back : reads-3 (4 ∷ 3 ∷ []) ((4 ∷ 3 ∷ []) ∷ []) client ≡ answered (use-version 3)
  pub not-paired : reads-3 (4 ∷ 3 ∷ []) [] client ≡ answered (use-version 3)
  pub four-alone : reads-3 (4 ∷ []) [] client ≡ answered negotiate
  -- the order is the server's: the client's list turned round answers the same
  pub own-order : reads-3 (4 ∷ 3 ∷ []) ((3 ∷ 4 ∷ []) ∷ []) (information_bytes 3 (4 ∷ 3 ∷ [])) ≡ answered (use-version 4)
  -- pairs are not chained: 3 to 5 and 5 to 4 make no pair 3 to 4
  pub not-chained : reads-3 (4 ∷ 3 ∷ []) ((3 ∷ 5 ∷ []) ∷ (5 ∷ 4 ∷ []) ∷ []) client ≡ answered (use-version 3)
  -- 4 is paired, but the client has it not
  pub not-available : reads-3 (4 ∷ 3 ∷ []) ((3 ∷ 4 ∷ []) ∷ []) (information_bytes 3 (3 ∷ [])) ≡ answered (use-version 3)

pub server-calls : ServerCalls
unfolding decide may_use first_accepted paired pairs_keep_rule each_pair_keeps_rule pair_keeps_rule elem table_keeps_rule entries_keep_rule usable reserved entries list_bytes
server-calls =
    record {
      paired-on = refl;
      paired-back = refl;
      not-paired = refl;
      four-alone = refl;
      own-order = refl;
      not-chained = refl;
      not-available = refl;
    }

-- C-17. The same first flight with versions barred for it
abbrev barring : List ℕ → List ℕ → Reply Act
barring accepted barred = decide (3 ∷ []) accepted ((3 ∷ 4 ∷ []) ∷ []) barred 3 Given client

pub record BarredCalls : Type 0 where
  pub four-barred : barring (4 ∷ 3 ∷ []) (4 ∷ []) ≡ answered (use-version 3)
  pub four-alone-barred : barring (4 ∷ []) (4 ∷ []) ≡ answered negotiate
  -- "Chosen among them has no effect"
  pub chosen-barred : barring (4 ∷ 3 ∷ []) (3 ∷ []) ≡ answered (use-version 4)
  pub both-barred : barring (4 ∷ 3 ∷ []) (3 ∷ 4 ∷ []) ≡ answered (use-version 3)
  -- "of any value": 0, a reserved one, one in no table, each again
  pub any_value : barring (4 ∷ 3 ∷ []) (0 ∷ 0x1a2a3a4a ∷ 99 ∷ 0 ∷ 0x1a2a3a4a ∷ 99 ∷ []) ≡ answered (use-version 4)
  -- information is missing: whatever is barred has no effect
  pub missing-barred : decide (3 ∷ []) (4 ∷ 3 ∷ []) [] (3 ∷ 4 ∷ []) 3 Missing [] ≡ answered (use-version 3)
  -- "up to 64", repeats counted; "more: 43", which comes before "negotiate" and after 41
  pub most-barred : barring (4 ∷ 3 ∷ []) (replicate 64 4) ≡ answered (use-version 3)
  pub too-many-barred : barring (4 ∷ 3 ∷ []) (replicate 65 4) ≡ refuse Reading 43
  pub before-negotiate : decide (3 ∷ []) (3 ∷ []) [] (replicate 65 4) 4 Given client ≡ refuse Reading 43
  pub before-missing : decide (3 ∷ []) (3 ∷ []) [] (replicate 65 4) 3 Missing [] ≡ refuse Reading 43
  pub after-tables : decide (3 ∷ []) [] [] (replicate 65 4) 3 Given client ≡ refuse Reading 41

pub barred-calls : BarredCalls
unfolding decide may_use first_accepted paired pairs_keep_rule each_pair_keeps_rule pair_keeps_rule elem table_keeps_rule entries_keep_rule usable reserved entries list_bytes
barred-calls =
    record {
      four-barred = refl;
      four-alone-barred = refl;
      chosen-barred = refl;
      both-barred = refl;
      any_value = refl;
      missing-barred = refl;
      most-barred = refl;
      too-many-barred = refl;
      before-negotiate = refl;
      before-missing = refl;
      after-tables = refl;
    }

-- "41 and 43 come before all else, then in this order."
pub record Orders : Type 0 where
  -- a bad table and bad pairs
  pub table-first : decide [] (3 ∷ []) ((3 ∷ 3 ∷ []) ∷ []) [] 3 Given [] ≡ refuse Reading 41
  pub accepted-first : decide (3 ∷ []) (3 ∷ 3 ∷ []) ((3 ∷ 3 ∷ []) ∷ []) [] 3 Given [] ≡ refuse Reading 41
  -- bad pairs, and a version that is not readable
  pub pairs_first : decide (3 ∷ []) (3 ∷ []) ((3 ∷ 3 ∷ []) ∷ []) [] 4 Given [] ≡ refuse Reading 43
  -- a version that is not readable, and malformed information
  pub unreadable-first : decide (3 ∷ []) (4 ∷ 3 ∷ []) [] [] 4 Given [] ≡ answered negotiate
  -- information is missing: the version if accepted, whatever the bytes
  pub missing-accepted : decide (3 ∷ []) (4 ∷ 3 ∷ []) [] [] 3 Missing [] ≡ answered (use-version 3)
  pub missing-not-accepted : decide (3 ∷ []) (4 ∷ []) [] [] 3 Missing client ≡ answered negotiate
  -- Chosen is neither available nor the version of the first flight
  pub malformed-first : reads-3 (3 ∷ []) [] (information_bytes 4 (3 ∷ [])) ≡ refuse Reading 36
  -- Chosen is not the version of the first flight, and nothing is in common
  pub chosen-before-choice : reads-3 (5 ∷ []) [] (information_bytes 4 (4 ∷ 3 ∷ [])) ≡ refuse Reading 51

pub orders : Orders
unfolding decide may_use first_accepted paired pairs_keep_rule each_pair_keeps_rule pair_keeps_rule elem table_keeps_rule entries_keep_rule usable reserved entries list_bytes
orders =
    record {
      table-first = refl;
      accepted-first = refl;
      pairs_first = refl;
      unreadable-first = refl;
      missing-accepted = refl;
      missing-not-accepted = refl;
      malformed-first = refl;
      chosen-before-choice = refl;
    }
