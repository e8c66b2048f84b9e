-- Demand 3 is about demand 2's choice. The step and demand 3's terms pick by `preferred`. The public choice promises
-- `choose`, which judges 40 and 41 first. Wherever an attempt picks, neither of them can apply, so the pick is what
-- `choose` answers: an accepted start has a table that keeps its rule, a readable Version Negotiation packet lists
-- 16,382 versions at most, and well formed information, or its stand-in, 255 and the version in use.
use Prim.Native.Nat.{ℕ, ◌%◌, ◌≤◌}
use mathlib.Core.Bool.{Bool, true, false, cond, not}
use mathlib.Core.List.{List, [], ◌∷◌, ◌++◌}
use mathlib.Core.Logic.{◌↔◌}
use Rattle.std.specs.Prelude.{Option, None, Some}
use Rattle.std.proofs.lemmas.Option.{same_Some, none-some}
use mathlib.Core.Path.{◌≡◌, refl, sym, ap, ◌∙◌}
use native.Mathlib.Omega.{arith}
use lib.Dec.{eqb, ltb}
use lib.ListN.{length, drop, length-append, length-drop}
use borrow.Author.Tests.{ltb-false, not-true, not-false}
use Rattle.refusals.specs.Reply.{Reply.answered}
use Rattle.refusals.specs.Rule.{clear}
use Rattle.refusals.proofs.Rules.{both_true}
use Rattle.versions.specs.Table.{table_keeps_rule}
use Rattle.lists.specs.Limits.{max_list}
use Rattle.lists.specs.Wire.{version_bytes}
use Rattle.lists.proofs.Entries.{length-entries}
use Rattle.choosing.specs.Choice.{choose, preferred, or_nothing_in_common}
use Rattle.choosing.specs.Laws.{version_chosen}
use Rattle.choosing.proofs.Laws.{choose-preferred}
use Rattle.invariants.specs.Header.{is_readable_negotiation, listed}
use Rattle.invariants.proofs.Negotiations.{readable-known}
use Rattle.information.specs.Information.{chosen_of, available_of, form_rules}
use Rattle.information.specs.Limits.{max_information}
use Rattle.information.specs.Presence.{Presence, Presence.Missing, Presence.Given}
use Rattle.attempt.specs.Attempt.{table_of}
use Rattle.attempt.specs.Demand.{fits, acted_at, acted_with, fitting_at, first_fitting, Handshake, VersionInformation}
use Rattle.attempt.specs.Demand.{information_read, information_of, stand_in, CompletedAgainst}
use Rattle.attempt.specs.Events.{Handed, Reachable}
use Rattle.attempt.specs.Start.{Input, is_accepted}
use Rattle.attempt.specs.declared.Attempt.{Attempt}
use Rattle.attempt.specs.Event.{Event, Event.Datagram, Event.PacketProcessed, Event.Outcome}
use Rattle.attempt.proofs.Demand3.{chosen-from}
use Rattle.attempt.proofs.Keeps.{Keeps, every-attempt, start-keeps}
use Rattle.attempt.proofs.Phases.{opened-reads}

-- Where neither 40 nor 41 applies

module _ (t l : List ℕ) (keeps : table_keeps_rule t ≡ true) (within : length l ≤ max_list) where
  -- what is preferred is what `choose` answers
  pick_chosen : preferred t l ≡ version_chosen (choose t l)
  pick_chosen = rw (choose-preferred t l keeps within) (go (preferred t l))
    where
      go : (o : Option ℕ) → o ≡ version_chosen (or_nothing_in_common o)
      go None = refl
      go (Some v) = refl

  pick-is-answer : (v : ℕ) → (preferred t l ≡ Some v) ↔ (choose t l ≡ answered v)
  pick-is-answer v = (
    (λ p. choose-preferred t l keeps within ∙ ap or_nothing_in_common p),
    (λ c. pick_chosen ∙ ap version_chosen c),
  )

-- 41: the table of an accepted start keeps its rule (`start-keeps`), and no event changes it
pub attempt-keeps : (a : Attempt) → Reachable a → table_keeps_rule (table_of a) ≡ true
attempt-keeps a r =
    every-attempt Kept (λ a j k. k) kept (λ x h. rw (opened-reads x).table (start-keeps x h)) a r
  where
    Kept : Attempt → Type 0
    Kept b = table_keeps_rule (table_of b) ≡ true

    kept : (b : Attempt) → Kept b → Keeps Kept b
    kept b k = record { stays = λ n. k; acts = λ v held. k; notes = k; closes = λ n h. k; completes = λ v. k }

-- 40: a readable packet's list
packet-within : (d : List ℕ) → is_readable_negotiation d ≡ true → length (listed d) ≤ max_list
packet-within d readable = (readable-known d readable).count

-- 40: Available, or the stand-in's, with the version in use added
given-within : (bytes : List ℕ) (u : ℕ) → clear (form_rules bytes) ≡ true → length (available_of bytes ++ (u ∷ [])) ≤ max_list
given-within bytes u formed =
    let p31 = both_true (not (ltb (length bytes) version_bytes)) _ formed in
    let p32 = both_true (not (not (eqb (length bytes % version_bytes) 0))) _ p31.1 in
    let p33 = both_true (not (ltb max_information (length bytes))) _ p32.1 in
    let short : length bytes ≤ max_information = ltb-false _ _ (not-true _ p33.0) in
    let behind = length-drop version_bytes bytes in
    let count = length-entries (drop version_bytes bytes) in
    let added = length-append (available_of bytes) (u ∷ []) in
    omega arith

available-within : (v : ℕ) (p : Presence) (bytes : List ℕ) (i : VersionInformation) (u : ℕ) → information_read v p bytes ≡ Some i →
    length (i.available ++ (u ∷ [])) ≤ max_list
available-within v Missing bytes i u read = go (eqb v 1) read
  where
    go : (b : Bool) → cond b (Some stand_in) None ≡ Some i → length (i.available ++ (u ∷ [])) ≤ max_list
    go true e = rw (← same_Some stand_in i e) (omega arith)
    go false e = absurd (none-some i e)
available-within v Given bytes i u read = go (clear (form_rules bytes)) refl read
  where
    given : VersionInformation
    given = record { chosen = chosen_of bytes; available = available_of bytes }

    go : (b : Bool) → clear (form_rules bytes) ≡ b → cond b (Some given) None ≡ Some i → length (i.available ++ (u ∷ [])) ≤ max_list
    go true f e = rw (← same_Some given i e) (given-within bytes u f)
    go false f e = absurd (none-some i e)

-- The step, for every attempt

-- At a readable Version Negotiation packet: the pick that it acts on is the answer of `choose` on the packet's list
pub act-by-choose : (a : Attempt) (d : List ℕ) → Reachable a → is_readable_negotiation d ≡ true →
    preferred (table_of a) (listed d) ≡ version_chosen (choose (table_of a) (listed d))
act-by-choose a d r readable = pick_chosen (table_of a) (listed d) (attempt-keeps a r) (packet-within d readable)

-- At an outcome whose information is read, or has its stand-in: the pick that 75 compares with the attempted version
-- is the answer of `choose` on Available with the version in use added
pub outcome-by-choose : (a : Attempt) (in_use : ℕ) (presence : Presence) (bytes : List ℕ) (i : VersionInformation) → Reachable a →
    information_read a.attempted presence bytes ≡ Some i →
    preferred (table_of a) (i.available ++ (in_use ∷ [])) ≡ version_chosen (choose (table_of a) (i.available ++ (in_use ∷ [])))
outcome-by-choose a u p bytes i r read =
    pick_chosen (table_of a) (i.available ++ (u ∷ [])) (attempt-keeps a r)
    (available-within a.attempted p bytes i u read)

-- Demand 3's terms, for every start that isn't refused

-- what the client acted with comes from the first packet that fits
abbrev acted-from : Input → Option (List ℕ) → Option ℕ
acted-from x None = None
acted-from x (Some d) = preferred x.table (listed d)

acted-first : (x : Input) (es : List Handed) → acted_with x es ≡ acted-from x (first_fitting x es)
unfolding acted_with first_fitting
acted-first x [] = refl
acted-first x (e ∷ es) = go e.event (acted-first x es)
  where
    packet : (b : Bool) → acted_with x es ≡ acted-from x (first_fitting x es) →
        cond b (preferred x.table (listed e.bytes)) (acted_with x es) ≡ acted-from x (cond b (Some e.bytes) (first_fitting x es))
    packet true ih = refl
    packet false ih = ih

    go : (ev : Event) → acted_with x es ≡ acted-from x (first_fitting x es) →
        acted_at x ev e.bytes (acted_with x es) ≡ acted-from x (fitting_at x ev e.bytes (first_fitting x es))
    go Datagram ih = packet (fits x e.bytes) ih
    go PacketProcessed ih = refl
    go (Outcome u p) ih = refl

-- which is readable
first-readable : (x : Input) (es : List Handed) (d : List ℕ) → first_fitting x es ≡ Some d → is_readable_negotiation d ≡ true
unfolding first_fitting
first-readable x [] d h = absurd (none-some d h)
first-readable x (e ∷ es) d h = go e.event h (first-readable x es d)
  where
    packet : (b : Bool) → fits x e.bytes ≡ b → cond b (Some e.bytes) (first_fitting x es) ≡ Some d →
        (first_fitting x es ≡ Some d → is_readable_negotiation d ≡ true) → is_readable_negotiation d ≡ true
    packet true f q ih =
        rw (← same_Some e.bytes d q)
        (not-false _ (not-true _ (both_true (not (not (is_readable_negotiation e.bytes))) _ f).0))
    packet false f q ih = ih q

    go : (ev : Event) → fitting_at x ev e.bytes (first_fitting x es) ≡ Some d →
        (first_fitting x es ≡ Some d → is_readable_negotiation d ≡ true) → is_readable_negotiation d ≡ true
    go Datagram q ih = packet (fits x e.bytes) refl q ih
    go PacketProcessed q ih = absurd (none-some d q)
    go (Outcome u p) q ih = absurd (none-some d q)

pub acted-by-choose : (x : Input) (events : List Handed) (attempted : ℕ) →
    is_accepted x ≡ true →  -- for every start that isn't refused
    (acted_with x events ≡ Some attempted) ↔  -- the client acted with a version exactly when
    ((d : List ℕ) × (first_fitting x events ≡ Some d) ×  -- a packet fits, the first before any heard or outcome,
    (choose x.table (listed d) ≡ answered attempted))  -- and that version is the answer of `choose` on its list
acted-by-choose x events v accepted = (
  (λ acted. go (first_fitting x events) refl (sym (acted-first x events) ∙ acted)),
  (λ (d, first, choice). acted-first x events ∙ ap (acted-from x) first ∙ (from_list d first).1 choice),
)
  where
    from_list : (d : List ℕ) → first_fitting x events ≡ Some d →
        (preferred x.table (listed d) ≡ Some v) ↔ (choose x.table (listed d) ≡ answered v)
    from_list d first =
        pick-is-answer x.table (listed d) (start-keeps x accepted) (packet-within d (first-readable x events d first)) v

    go : (o : Option (List ℕ)) → first_fitting x events ≡ o → acted-from x o ≡ Some v →
        (d : List ℕ) × (first_fitting x events ≡ Some d) × (choose x.table (listed d) ≡ answered v)
    go None first q = absurd (none-some v q)
    go (Some d) first q = (d, first, (from_list d first).0 q)

pub good-by-choose : (x : Input) (attempted : ℕ) (h : Handshake) (i : VersionInformation) →
    is_accepted x ≡ true →  -- for every start that isn't refused
    information_of attempted h ≡ Some i →  -- and an outcome with well formed information, or its stand-in:
    (preferred x.table (i.available ++ (h.in_use ∷ [])) ≡ Some attempted) ↔  -- what `Good` asks of the choice says that
    (choose x.table (i.available ++ (h.in_use ∷ [])) ≡ answered attempted)  -- `choose` answers the attempted version
good-by-choose x v h i accepted read =
    pick-is-answer x.table (i.available ++ (h.in_use ∷ [])) (start-keeps x accepted)
    (available-within v h.presence h.bytes i h.in_use read) v

-- A client that completed against a list which holds the version in use attempted the answer of `choose` on that list;
-- so two such clients with one table attempted the same version (`two-clients`)
pub completed-by-choose : (available : List ℕ) (x : Input) (events : List Handed) (v : ℕ) →
    CompletedAgainst available x events v → choose x.table available ≡ answered v
completed-by-choose l x events v c =
    let longer : length (l ++ (c.handshake.in_use ∷ [])) ≤ max_list =
    rw (← c.against)
    (available-within v c.handshake.presence c.handshake.bytes c.information c.handshake.in_use c.read) in
    (pick-is-answer x.table l (start-keeps x c.accepted) (omega (arith, length-append l (c.handshake.in_use ∷ []), longer)) v).0
    (chosen-from l x events v c)
