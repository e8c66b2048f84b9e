-- The lists that a server is configured with, what makes them safe, and what the test of them answers. The papers have no such
-- test; the rule is that of docs/INTEGRATION.md, "Safe configurations".
use Rattle.std.specs.Prelude.{ℕ, Bool, true, false, not, ◌&&◌, ◌||◌, List, [], ◌∷◌, ltb, length, find}
use Rattle.std.specs.Prelude.{Option, None, Some, Result, Ok, Err}
use Rattle.refusals.specs.Reply.{Reply, Reply.answered, refuse}
use Rattle.refusals.specs.Rule.{Rule, Rule.◌when◌, judged, clear}
use Rattle.refusals.specs.declared.Call.TheVariants.{Writing}
use Rattle.refusals.specs.declared.Refusal.{Refusal}
use Rattle.versions.specs.Pairs.{pairs_keep_rule}
use Rattle.versions.specs.Table.{elem, table_keeps_rule}
use Rattle.information.specs.Limits.{max_available}
use Rattle.both_ends.specs.declared.Finding.{Finding}
use Rattle.both_ends.specs.declared.Finding.TheVariants as finding

-- Document 01: "It has a table of versions whose first flights it can read, a table of those it accepts, and pairs"; "the
-- offered table" of its packets; the "Available Versions" of its Version Information. What is barred for a flight (document
-- 02, C-17) is told with that flight, and is no part of it
pub record Configuration : Type 0 where
  pub readable : List ℕ
  pub accepted : List ℕ
  pub offered : List ℕ
  pub available : List ℕ
  pub pairs : List (List ℕ)

abbrev pub configuration_of : List ℕ → List ℕ → List ℕ → List ℕ → List (List ℕ) → Configuration
configuration_of r a o l ps = record { readable = r; accepted = a; offered = o; available = l; pairs = ps }

-- Each list by itself. Document 01: 23 "offered table breaks its rule", 33 "over 255 entries to write", 41 "a table of versions
-- breaks its rule (not the offered one)", 43 "pairs break their rule"
abbrev pub configuration_rules : Configuration → List Rule
configuration_rules c =
    (23 when not (table_keeps_rule c.offered)) ∷
    (33 when ltb max_available (length c.available)) ∷
    (41 when not (table_keeps_rule c.readable) || not (table_keeps_rule c.accepted)) ∷
    (43 when not (pairs_keep_rule c.pairs)) ∷
    []

-- Every version of one list is in the other
unfoldable pub within : List ℕ → List ℕ → Bool
within [] other = true
within (v ∷ vs) other = elem v other && within vs other

-- Two lists hold the same versions, in whatever order
abbrev pub same_versions : List ℕ → List ℕ → Bool
same_versions a b = within a b && within b a

-- The safe rule: accepted, offered and Available hold the same versions, and each of them is readable
unfoldable pub keeps_safe_rule : Configuration → Bool
keeps_safe_rule c =
    same_versions c.accepted c.offered &&
    (same_versions c.offered c.available && within c.offered c.readable)

-- A safe configuration: each list keeps its own rule, and together they keep the safe rule
unfoldable pub is_safe : Configuration → Bool
is_safe c = clear (configuration_rules c) && keeps_safe_rule c

-- The parts of the safe rule, by how each is broken
pub data Part : Type 0 where
  accepted-not-offered : Part
  offered-not-accepted : Part
  offered-not-readable : Part
  available-not-offered : Part
  offered-not-available : Part

-- What the test finds: no part is broken, or one is, by a version
pub data Verdict : Type 0 where
  safe : Verdict
  broken : Part → ℕ → Verdict

-- The first version of a list that the other does not hold
abbrev pub first_outside : List ℕ → List ℕ → Option ℕ
first_outside list other = find (λ v. not (elem v other)) list

-- A part that a version breaks, or, where none does, what is found of the parts after it
abbrev pub broken_by : Part → Option ℕ → Verdict → Verdict
broken_by part None later = later
broken_by part (Some v) later = broken part v

-- The first part that is broken, in this order
abbrev pub verdict_on : Configuration → Verdict
verdict_on c =
    broken_by accepted-not-offered (first_outside c.accepted c.offered)
    (broken_by offered-not-accepted (first_outside c.offered c.accepted)
    (broken_by offered-not-readable (first_outside c.offered c.readable)
    (broken_by available-not-offered (first_outside c.available c.offered)
    (broken_by offered-not-available (first_outside c.offered c.available) safe))))

-- What the test answers. A refusal is about what this side is configured with, so it has no close code, as a writer's
unfoldable pub judged_configuration : Configuration → Reply Verdict
judged_configuration c = judged Writing (configuration_rules c) (answered (verdict_on c))

-- The cases of `Finding`
abbrev pub verdict_in : Finding → Verdict
verdict_in finding.Safe = safe
verdict_in (finding.AcceptedNotOffered v) = broken accepted-not-offered v
verdict_in (finding.OfferedNotAccepted v) = broken offered-not-accepted v
verdict_in (finding.OfferedNotReadable v) = broken offered-not-readable v
verdict_in (finding.AvailableNotOffered v) = broken available-not-offered v
verdict_in (finding.OfferedNotAvailable v) = broken offered-not-available v

-- The cases of the test's result
abbrev pub finding_reply : Result Finding Refusal → Reply Verdict
finding_reply (Ok f) = answered (verdict_in f)
finding_reply (Err r) = refuse Writing r.0

-- The verdict that no part is broken
abbrev pub found_safe : Verdict → Bool
found_safe safe = true
found_safe (broken part v) = false

-- The answer says that the configuration is safe
abbrev pub says_safe : Result Finding Refusal → Bool
says_safe (Ok f) = found_safe (verdict_in f)
says_safe (Err r) = false
