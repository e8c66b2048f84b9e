-- A forged packet never leads down. A client that acted on any packet whatever, forged or not, and completed with a safe server's
-- Available list and a version that the server accepts, attempted the version that it would choose from the whole offer. So an
-- attacker can make it close; he can move it to no other version. The words are those of specs/Exchange.antt.
use Prim.Native.Nat.{ℕ, ◌≤◌}
use mathlib.Core.Bool.{true, false≢true}
use mathlib.Core.List.{List, [], ◌∷◌, ◌++◌}
use Rattle.std.specs.Prelude.{Some}
use Rattle.std.proofs.lemmas.Option.{same_Some}
use mathlib.Core.Path.{◌≡◌, sym, ap, subst, ◌∙◌}
use native.Mathlib.Omega.{arith}
use Rattle.std.proofs.Common.{tests}
use Rattle.versions.specs.Table.{elem, place_of}
use Rattle.choosing.specs.Choice.{preferred}
use Rattle.choosing.proofs.Laws.{preferred-by-membership}
use Rattle.information.specs.Information.{available_of}
use Rattle.information.specs.Presence.{Presence, Presence.Given}
use Rattle.attempt.specs.Demand.{VersionInformation, information_read, Good}
use Rattle.attempt.specs.Events.{Handed}
use Rattle.attempt.specs.Start.{Input, start_of}
use Rattle.attempt.proofs.Demand3.{added}
use Rattle.attempt.proofs.Demand3Journaled.{demand-3-journaled}
use Rattle.attempt.proofs.Keeps.{start-original}
use Rattle.both_ends.specs.Configuration.{Configuration, is_safe}
use Rattle.both_ends.specs.Exchange.{CompletedWith, NotLedDown}
use Rattle.both_ends.proofs.Along.{started, fresh-acts}
use Rattle.both_ends.proofs.Safe.{Safe, safe-facts}
use Rattle.both_ends.proofs.ServerPacket.{packet-fits, packet-choice}

-- What is chosen from a list does not stand behind a version of table and list
chosen-first : (table list : List ℕ) (v w : ℕ) → preferred table list ≡ Some v → elem w list ≡ true → elem w table ≡ true →
    place_of v table ≤ place_of w table
unfolding preferred place_of elem
chosen-first [] list v w choice listed held = absurd (false≢true held)
chosen-first (t ∷ table) list v w choice listed held =
    let later = chosen-first table list v w in grind (arith, tests)

-- Information that is given and read has the list that lies in its bytes
given-available : (attempted : ℕ) (bytes : List ℕ) (i : VersionInformation) → information_read attempted Given bytes ≡ Some i →
    i.available ≡ available_of bytes
given-available attempted bytes i read = grind (arith, tests)

module _ (c : Configuration) (x : Input) (events : List Handed) (attempted : ℕ) (d : CompletedWith c x events attempted) where
  -- the first outcome was good, by demand 3
  good : Good x attempted d.handshake
  good =
      let found = (demand-3-journaled x events attempted d.accepted d.acted).0 d.completed in
      let same : found.0 ≡ d.handshake = same_Some _ _ (sym found.1 ∙ d.first) in
      subst (Good x attempted) same found.2

  -- and its Available list is the server's
  is-available : good.information.available ≡ c.available
  is-available =
      given-available attempted d.handshake.bytes good.information
      (ap (λ (p : Presence). information_read attempted p d.handshake.bytes) (sym d.given) ∙ good.well_formed) ∙
      d.available

  choice-from-offer : Safe c → preferred x.table c.offered ≡ Some attempted
  choice-from-offer s =
      let in_use : elem d.handshake.in_use c.available ≡ true =
      s.available-offered _ ∙ sym (s.accepted-offered _) ∙ d.in_use in
      sym (preferred-by-membership x.table c.available c.offered (λ v e. s.available-offered v)) ∙
      sym (added x.table c.available d.handshake.in_use in_use) ∙
      ap (λ (l : List ℕ). preferred x.table (l ++ (d.handshake.in_use ∷ []))) (sym is-available) ∙
      good.would_choose

  -- For every safe server, whatever was forged
  pub never-led-down : is_safe c ≡ true → NotLedDown d
  never-led-down safe? =
      let choice = choice-from-offer (safe-facts c safe?) in
      record {
        choice = choice;
        own-packet =
            λ packet n.
            (fresh-acts x (start_of x).attempt packet attempted (started x d.accepted) (packet-fits c x packet n)
            (packet-choice c x packet n d.accepted ∙ choice)).0;
        not_behind = λ offered. chosen-first x.table c.offered attempted x.original choice offered (start-original x d.accepted);
      }
