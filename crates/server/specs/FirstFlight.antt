-- Document 01, "By the box": the server's choice after a first flight (RFC 9368 sections 2.3 and 4). Its refusals are
-- not in the order of their numbers, but in document 01's own: "31 to 36, 41, 43 and 51 only, in its own order above".
-- That is 41, 43 (`server_rules`); where the version is readable and information is given, 31 to 36 and 51
-- (`flight_rules`). In each of the two lists the numbers rise.
use Rattle.std.specs.Prelude.{ℕ, Bool, cond, not, ◌&&◌, ◌||◌, List, [], ◌∷◌, ◌++◌, eqb, ltb, length, Result, Ok, Err}
use Rattle.refusals.specs.Reply.{Reply, Reply.answered, refuse}
use Rattle.refusals.specs.Rule.{Rule, Rule.◌when◌, judged}
use Rattle.refusals.specs.declared.Call.TheVariants.{Reading}
use Rattle.refusals.specs.declared.Refusal.{Refusal}
use Rattle.versions.specs.Pairs.{paired, pairs_keep_rule}
use Rattle.versions.specs.Table.{elem, table_keeps_rule}
use Rattle.information.specs.Information.{chosen_of, available_of, form_rules, sender_rules}
use Rattle.information.specs.Presence.{Presence, Presence.Missing, Presence.Given}
use Rattle.information.specs.declared.Sender.TheVariants.{Client}
use Rattle.server.specs.Limits.{max_barred}
use Rattle.server.specs.declared.Decision.{Decision}
use Rattle.server.specs.declared.Decision.TheVariants.{Negotiate, Use}

-- The answers that are no refusal
pub data Act : Type 0 where
  negotiate : Act
  use-version : ℕ → Act

-- The cases of `Decision`
abbrev pub shown_decision : Decision → Act
shown_decision Negotiate = negotiate
shown_decision (Use v) = use-version v

abbrev pub decision_reply : Result Decision Refusal → Reply Act
decision_reply (Ok d) = answered (shown_decision d)
decision_reply (Err r) = refuse Reading r.0

-- The tables and pairs that the server has: "a table of versions whose first flights it can read, a table of those
-- it accepts, and pairs". Document 02, C-17: "up to 64 barred versions, of any value, for the flight at hand (more:
-- 43)". "41 and 43 come before all else"
abbrev pub server_rules : List ℕ → List ℕ → List (List ℕ) → List ℕ → List Rule
server_rules readable accepted pairs barred =
    (41 when not (table_keeps_rule readable) || not (table_keeps_rule accepted)) ∷
    (43 when not (pairs_keep_rule pairs) || ltb max_barred (length barred)) ∷
    []

-- "is in the client's Available list and either is Chosen or is paired from Chosen", and, if it is paired, is not barred.
-- Document 02, C-17: "Chosen among them has no effect"
unfoldable pub may_use : List (List ℕ) → List ℕ → ℕ → List ℕ → ℕ → Bool
may_use pairs barred chosen available v =
    elem v available && (eqb v chosen || (paired pairs chosen v && not (elem v barred)))

-- "the first accepted version that ..; none: negotiate"
unfoldable pub first_accepted : List ℕ → List (List ℕ) → List ℕ → ℕ → List ℕ → Act
first_accepted [] pairs barred chosen available = negotiate
first_accepted (v ∷ accepted) pairs barred chosen available =
    cond (may_use pairs barred chosen available v) (use-version v) (first_accepted accepted pairs barred chosen available)

-- "Malformed: 31 to 36. Chosen not the version of the first flight: 51."
abbrev pub flight_rules : List ℕ → ℕ → List Rule
flight_rules information version =
    form_rules information ++
    (sender_rules Client (chosen_of information) (available_of information) ++
    ((51 when not (eqb (chosen_of information) version)) ∷ []))

-- "If Version Information is missing: that version if accepted, else negotiate"
abbrev pub with_information : List ℕ → List (List ℕ) → List ℕ → ℕ → Presence → List ℕ → Reply Act
with_information accepted pairs barred version Missing information =
    answered (cond (elem version accepted) (use-version version) negotiate)
with_information accepted pairs barred version Given information =
    judged Reading (flight_rules information version)
    (answered (first_accepted accepted pairs barred (chosen_of information) (available_of information)))

-- "If the version of the first flight is not readable: answer negotiate"
unfoldable pub decide : List ℕ → List ℕ → List (List ℕ) → List ℕ → ℕ → Presence → List ℕ → Reply Act
decide readable accepted pairs barred version presence information =
    judged Reading (server_rules readable accepted pairs barred)
    (cond (elem version readable) (with_information accepted pairs barred version presence information) (answered negotiate))
