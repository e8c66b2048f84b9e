-- The phases of an attempt: not yet acted, acted, ended. Each is told by the end mark, the two flags and what is read
-- of the start, never by the record as a whole.
use Prim.Native.Nat.{ℕ}
use mathlib.Core.Bool.{Bool, true, false, cond, not, ◌&&◌, not-not, and-true, and-false, or-true}
use mathlib.Core.List.{List, [], ◌∷◌, ◌++◌}
use Rattle.std.specs.Prelude.{Option, None, Some}
use Rattle.std.proofs.lemmas.Option.{same_Some, none-some}
use mathlib.Core.Path.{◌≡◌, refl, ap, ◌∙◌}
use lib.Dec.{eqb}
use lib.ListN.{length, drop, replicate}
use lib.Seq.{take-append_seam}
use Rattle.refusals.specs.Rule.{Rule, Rule.◌when◌, lowest, clear}
use Rattle.refusals.proofs.Rules.{clear-append, lowest-clear, lowest-applies, lowest-any}
use Rattle.choosing.specs.Choice.{preferred}
use Rattle.versions.specs.Limits.{max_table}
use Rattle.versions.specs.Table.{elem}
use Rattle.choosing.proofs.Laws.{preferred-held}
use Rattle.invariants.specs.Header.{is_readable_negotiation, listed}
use Rattle.information.specs.Information.{chosen_of, available_of, form_rules}
use Rattle.information.specs.Presence.{Presence, Presence.Missing, Presence.Given}
use Rattle.attempt.specs.Attempt.{padded, table_of, own_of, is_open, is_completed, put}
use Rattle.attempt.specs.Demand.{fits, acted_at, acted_with, VersionInformation, stand_in, information_read}
use Rattle.attempt.specs.Events.{Handed, run}
use Rattle.attempt.specs.Start.{Input, Reads, our_list, opened}
use Rattle.attempt.specs.Step.{After, datagram_rules, outcome_rules, missing_rules, information_rules, is_late, act_on, picks}
use Rattle.attempt.specs.Step.{unchanged, closed, completed, step_of, on_datagram, on_processed, on_outcome}
use Rattle.attempt.specs.declared.Attempt.{Attempt}
use Rattle.attempt.specs.declared.End.{End}
use Rattle.attempt.specs.declared.End.TheVariants as end
use Rattle.attempt.specs.Event.{Event, Event.Datagram, Event.PacketProcessed, Event.Outcome}
use Rattle.attempt.proofs.OwnListFacts.{members-word, word-of-row}

pub opened-reads : (x : Input) → Reads x (opened x)
unfolding opened padded
opened-reads x =
    let t : table_of (opened x) ≡ x.table =
    take-append_seam x.table (drop (length x.table) (replicate max_table 0)) in
    record {
      table = t;
      destination = take-append_seam x.destination _;
      source = take-append_seam x.source _;
      original = refl;
      own =
          λ v h.
          rw (t, word-of-row x.table x.table x.pairs x.barred _ v h)
          (members-word x.table x.pairs x.barred v);
    }

-- what an event may change leaves it
pub put_reads : {x : Input} {a : Attempt} (v : ℕ) (acted heard : Bool) (e : End) → Reads x a → Reads x (put a v acted heard e)
put_reads v acted heard e r =
    record {
      table = r.table;
      destination = r.destination;
      source = r.source;
      original = r.original;
      own = r.own;
    }

-- The three phases that are open or not

-- Each refusal that leaves an attempt unchanged leaves the phase; that is all that the lists of events below use of it,
-- so a field which every event changes asks for these two lemmas alone.
pub record Fresh (x : Input) (a : Attempt) : Type 0 where
  pub reads : Reads x a
  pub acted : a.acted ≡ false
  pub heard : a.heard ≡ false
  pub open? : a.end ≡ end.Open

pub record Acted (x : Input) (v : ℕ) (a : Attempt) : Type 0 where
  pub reads : Reads x a
  pub held : elem v x.table ≡ true
  pub attempted : a.attempted ≡ v
  pub acted : a.acted ≡ true
  pub open? : a.end ≡ end.Open

pub fresh-unchanged : {x : Input} {a : Attempt} (n : ℕ) → Fresh x a → Fresh x (unchanged a n).attempt
fresh-unchanged n s = record { reads = s.reads; acted = s.acted; heard = s.heard; open? = s.open? }

pub acted-unchanged : {x : Input} {v : ℕ} {a : Attempt} (n : ℕ) → Acted x v a → Acted x v (unchanged a n).attempt
acted-unchanged n s =
    record { reads = s.reads; held = s.held; attempted = s.attempted; acted = s.acted; open? = s.open? }

-- Ended

-- what holds of each refusal that leaves the record holds of a datagram that comes too late
pub late-datagram : (a : Attempt) (bytes : List ℕ) (P : After → Type 0) → is_late a ≡ true →
    ((n : ℕ) → P (unchanged a n)) → P (step_of a Datagram bytes)
unfolding step_of on_datagram
late-datagram a bytes P late each =
    lowest-applies (unchanged a) (act_on a (preferred (table_of a) (listed bytes))) P each (datagram_rules a bytes)
    (rw late (and-false (not (not (is_readable_negotiation bytes)))))

-- an event leaves the end mark of an attempt that has ended
pub ended-stays : (a : Attempt) (e : Event) (bytes : List ℕ) → is_open a.end ≡ false → (step_of a e bytes).attempt.end ≡ a.end
unfolding step_of on_processed on_outcome
ended-stays a Datagram bytes h = late-datagram a bytes (λ r. r.attempt.end ≡ a.end) (rw h) (λ n. refl)
ended-stays a PacketProcessed bytes h = rw h
ended-stays a (Outcome u p) bytes h = rw h

pub ended-run : (a : Attempt) (es : List Handed) → is_open a.end ≡ false → (run a es).end ≡ a.end
unfolding run
ended-run a [] h = refl
ended-run a (e ∷ es) h =
    let s = ended-stays a e.event e.bytes h in
    ended-run (step_of a e.event e.bytes).attempt es (rw s h) ∙ s

-- Acted

-- "Good", as a test
abbrev pub is_good_information : Input → ℕ → ℕ → Option VersionInformation → Bool
is_good_information x v u None = false
is_good_information x v u (Some i) =
    elem i.chosen (our_list x v) &&
    (eqb i.chosen u &&
    (not (eqb (length i.available) 0) && picks (preferred x.table (i.available ++ (u ∷ []))) v))

abbrev pub is_good_at : Input → ℕ → Event → List ℕ → Bool → Bool
is_good_at x v Datagram bytes later = later
is_good_at x v PacketProcessed bytes later = later
is_good_at x v (Outcome u p) bytes later = is_good_information x v u (information_read v p bytes)

-- there is an outcome, and the first one is good
unfoldable pub first_is_good : Input → ℕ → List Handed → Bool
first_is_good x v [] = false
first_is_good x v (e ∷ es) = is_good_at x v e.event e.bytes (first_is_good x v es)

-- the attempt completes where no rule applies
pub completes-clear : (a : Attempt) (u : ℕ) (rs : List Rule) →
    is_completed (lowest (closed a) rs (completed a u)).attempt.end ≡ clear rs
completes-clear a u [] = refl
completes-clear a u ((n when true) ∷ rs) = refl
completes-clear a u ((n when false) ∷ rs) = completes-clear a u rs

-- 72 to 75 of an attempt that acted are what "good" asks of information that is well formed
outcome-good : (x : Input) (v : ℕ) (a : Attempt) (u c : ℕ) (l : List ℕ) → Acted x v a →
    clear (outcome_rules a u c l) ≡ is_good_information x v u (Some (record { chosen = c; available = l }))
unfolding own_of
outcome-good x v a u c l s =
    rw (s.attempted, s.acted, s.reads.own v s.held, s.reads.table) (simp (not-not, and-true))

pub information-good : (x : Input) (v : ℕ) (a : Attempt) (u : ℕ) (p : Presence) (bytes : List ℕ) → Acted x v a →
    clear (information_rules a u p bytes) ≡ is_good_information x v u (information_read v p bytes)
information-good x v a u Missing bytes s =
    ap (λ (b : Bool). clear (missing_rules b a u)) s.acted ∙
    ap (λ (b : Bool). not (not (eqb a.attempted 1)) && b) (outcome-good x v a u 1 (1 ∷ []) s) ∙
    ap (λ (w : ℕ). not (not (eqb w 1)) && is_good_information x v u (Some stand_in)) s.attempted ∙
    go (eqb v 1)
  where
    go : (b : Bool) → (not (not b) && is_good_information x v u (Some stand_in)) ≡ is_good_information x v u (cond b (Some stand_in) None)
    go true = refl
    go false = refl
information-good x v a u Given bytes s =
    clear-append (form_rules bytes) (outcome_rules a u (chosen_of bytes) (available_of bytes)) ∙
    ap (λ (b : Bool). clear (form_rules bytes) && b) (outcome-good x v a u (chosen_of bytes) (available_of bytes) s) ∙
    go (clear (form_rules bytes))
  where
    i : VersionInformation
    i = record { chosen = chosen_of bytes; available = available_of bytes }

    go : (b : Bool) → (b && is_good_information x v u (Some i)) ≡ is_good_information x v u (cond b (Some i) None)
    go true = refl
    go false = refl

-- an outcome on an open attempt
pub open-outcome : (a : Attempt) (u : ℕ) (p : Presence) (bytes : List ℕ) → a.end ≡ end.Open →
    step_of a (Outcome u p) bytes ≡ lowest (closed a) (information_rules a u p bytes) (completed a u)
unfolding step_of on_outcome
open-outcome a u p bytes h =
    ap (λ (d : End). cond (is_open d) (lowest (closed a) (information_rules a u p bytes) (completed a u)) (unchanged a 62)) h

pub acted-processed : (x : Input) (v : ℕ) (a : Attempt) (bytes : List ℕ) → Acted x v a → Acted x v (step_of a PacketProcessed bytes).attempt
unfolding step_of on_processed
acted-processed x v a bytes s =
    rw (ap is_open s.open?)
    (record {
      reads = put_reads _ _ _ _ s.reads;
      held = s.held;
      attempted = s.attempted;
      acted = s.acted;
      open? = s.open?;
    })

-- an attempt that acted has completed exactly when the first outcome is good
pub acted-run : (x : Input) (v : ℕ) (a : Attempt) (es : List Handed) → Acted x v a →
    is_completed (run a es).end ≡ first_is_good x v es
unfolding run first_is_good
acted-run x v a [] s = ap is_completed s.open?
acted-run x v a (e ∷ es) s = go e.event (λ b. acted-run x v b es)
  where
    after-outcome : (u : ℕ) (p : Presence) (r : After) → step_of a (Outcome u p) e.bytes ≡ r →
        is_open r.attempt.end ≡ false → is_completed (run (step_of a (Outcome u p) e.bytes).attempt es).end ≡ is_completed r.attempt.end
    after-outcome u p r q h = rw q (ap is_completed (ended-run r.attempt es h))

    go : (ev : Event) → ((b : Attempt) → Acted x v b → is_completed (run b es).end ≡ first_is_good x v es) →
        is_completed (run (step_of a ev e.bytes).attempt es).end ≡ is_good_at x v ev e.bytes (first_is_good x v es)
    go Datagram ih =
        late-datagram a e.bytes (λ r. is_completed (run r.attempt es).end ≡ first_is_good x v es)
        (rw (s.acted, or-true) refl) (λ n. ih _ (acted-unchanged n s))
    go PacketProcessed ih = ih _ (acted-processed x v a e.bytes s)
    go (Outcome u p) ih =
        after-outcome u p _ (open-outcome a u p e.bytes s.open?)
        (lowest-any (closed a) _ (λ r. is_open r.attempt.end ≡ false) (λ n. refl) refl (information_rules a u p e.bytes)) ∙
        completes-clear a u (information_rules a u p e.bytes) ∙
        information-good x v a u p e.bytes s

-- Not yet acted

-- none of 61 to 64 applies to a datagram that fits
pub fresh-fits : (x : Input) (a : Attempt) (bytes : List ℕ) → Fresh x a → clear (datagram_rules a bytes) ≡ fits x bytes
fresh-fits x a bytes s =
    rw (ap is_open s.open?, s.acted, s.heard, s.reads.destination, s.reads.source, s.reads.original)

-- an attempt that acts on a packet of the list has completed exactly when the first outcome is good
pub fresh-run : (x : Input) (v : ℕ) (a : Attempt) (es : List Handed) → Fresh x a → acted_with x es ≡ Some v →
    is_completed (run a es).end ≡ first_is_good x v es
unfolding run first_is_good acted_with step_of on_datagram
fresh-run x v a [] s h = absurd (none-some v h)
fresh-run x v a (e ∷ es) s h = go e.event h (λ b. fresh-run x v b es)
  where
    -- what the rest of the list does to an attempt that has not acted yet
    Later : Type 0
    Later = (b : Attempt) → Fresh x b → acted_with x es ≡ Some v → is_completed (run b es).end ≡ first_is_good x v es

    acts-on : (o : Option ℕ) → preferred x.table (listed e.bytes) ≡ o → o ≡ Some v →
        is_completed (run (act_on a o).attempt es).end ≡ first_is_good x v es
    acts-on None p q = absurd (none-some v q)
    acts-on (Some w) p q =
        let same : w ≡ v = same_Some w v q in
        acted-run x v (put a w true a.heard a.end) es
        (record {
          reads = put_reads _ _ _ _ s.reads;
          held = (preferred-held x.table (listed e.bytes) v (p ∙ q)).0;
          attempted = same;
          acted = refl;
          open? = s.open?;
        })

    rules : List Rule
    rules = datagram_rules a e.bytes

    act : After
    act = act_on a (preferred (table_of a) (listed e.bytes))

    datagram : (b : Bool) → fits x e.bytes ≡ b → cond b (preferred x.table (listed e.bytes)) (acted_with x es) ≡ Some v →
        Later → is_completed (run (on_datagram a e.bytes).attempt es).end ≡ first_is_good x v es
    datagram true f q later =
        rw (lowest-clear (unchanged a) act rules (fresh-fits x a e.bytes s ∙ f), s.reads.table) (acts-on _ refl q)
    datagram false f q later =
        lowest-applies (unchanged a) act (λ r. is_completed (run r.attempt es).end ≡ first_is_good x v es)
        (λ n. later _ (fresh-unchanged n s) q) rules (fresh-fits x a e.bytes s ∙ f)

    go : (ev : Event) → acted_at x ev e.bytes (acted_with x es) ≡ Some v → Later →
        is_completed (run (step_of a ev e.bytes).attempt es).end ≡ is_good_at x v ev e.bytes (first_is_good x v es)
    go Datagram q later = datagram (fits x e.bytes) refl q later
    go PacketProcessed q later = absurd (none-some v q)
    go (Outcome u p) q later = absurd (none-some v q)
