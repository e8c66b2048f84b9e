-- No table and no own list of an attempt has a reserved number (document 02, C-18): what may be answered never is one, "so a
-- reserved Chosen falls under 72". And what the own list of an attempt has: the attempted version, and few others.
use Prim.Native.Nat.{ℕ, ◌≤◌}
use mathlib.Core.Bool.{Bool, true, false, true≢false}
use mathlib.Core.List.{List}
use mathlib.Core.Path.{◌≡◌, refl, sym, ap, ◌∙◌}
use native.Mathlib.Omega.{arith}
use lib.ListN.{length}
use Rattle.refusals.specs.Rule.{Rule, lowest, clear}
use Rattle.refusals.proofs.Rules.{both_true, lowest-append, lowest-clear}
use Rattle.versions.specs.Limits.{max_table}
use Rattle.versions.specs.Reserved.{without_reserved}
use Rattle.versions.specs.Table.{elem}
use Rattle.versions.specs.Version.{reserved}
use Rattle.versions.proofs.Lists.{table-counts}
use Rattle.versions.proofs.Members.{elem-where, members-held, length-members}
use Rattle.versions.proofs.WithoutReserved.{table-not-zero, table-not-reserved, without-none}
use Rattle.information.specs.Information.{chosen_of, available_of, form_rules}
use Rattle.information.specs.Presence.{Presence.Given}
use Rattle.attempt.specs.Attempt.{table_of, own_for, own_of, own_as_answered}
use Rattle.attempt.specs.Events.{Reachable}
use Rattle.attempt.specs.OwnList.{may_be_answered, own_list, word_of}
use Rattle.attempt.specs.Start.{Input, our_list, is_accepted, opened}
use Rattle.attempt.specs.Step.{closed, completed, outcome_rules, step_of, counts_fit}
use Rattle.attempt.specs.declared.Attempt.{Attempt}
use Rattle.attempt.specs.declared.End.TheVariants as end
use Rattle.attempt.specs.Event.{Event.Outcome}
use Rattle.attempt.proofs.Barred.{attempted-answered}
use Rattle.attempt.proofs.Chosen.{attempt-keeps}
use Rattle.attempt.proofs.Keeps.{Keeps, every-attempt, start-keeps, start-original, reachable-passes}
use Rattle.attempt.proofs.Phases.{opened-reads, open-outcome}

-- ---- read from the start

-- "in our list": an accepted start's list for any version has no reserved number
pub our-list-unreserved : (x : Input) (attempted v : ℕ) → is_accepted x ≡ true → elem v (our_list x attempted) ≡ true → reserved v ≡ false
unfolding own_list
our-list-unreserved x attempted v h e =
    let both = both_true (may_be_answered x.pairs x.barred attempted v) (elem v x.table)
    (sym (elem-where (may_be_answered x.pairs x.barred attempted) x.table v) ∙ e) in
    table-not-reserved x.table v (start-keeps x h) both.1

-- the version that is attempted is in it, if it is in the table
attempted-in-list : (x : Input) (v : ℕ) → elem v x.table ≡ true → elem v (our_list x v) ≡ true
unfolding own_list
attempted-in-list x v e =
    elem-where (may_be_answered x.pairs x.barred v) x.table v ∙
    rw (attempted-answered x.pairs x.barred v, e)

-- ---- read from the record

-- What no event changes: the Original Version is in the table, and each version of the table is in its own list
abbrev Known : Attempt → Type 0
Known a = (elem a.original (table_of a) ≡ true) × ((v : ℕ) → elem v (table_of a) ≡ true → elem v (own_for a v) ≡ true)

opened-known : (x : Input) → is_accepted x ≡ true → Known (opened x)
opened-known x h =
    let reads = opened-reads x in (
      rw (reads.table, reads.original) (start-original x h),
      λ v e.
          let held : elem v x.table ≡ true = sym (ap (elem v) reads.table) ∙ e in
          ap (elem v) (reads.own v held) ∙ attempted-in-list x v held,
    )

known_kept : (a : Attempt) → Known a → Keeps Known a
known_kept a k = record { stays = λ n. k; acts = λ v held. k; notes = k; closes = λ n h. k; completes = λ v. k }

known : (a : Attempt) → Reachable a → Known a
known a r = every-attempt Known (λ a j k. k) known_kept opened-known a r

-- An entry of the own list is an entry of the table
own-in-table : (a : Attempt) (v : ℕ) → elem v (own_as_answered a) ≡ true → elem v (table_of a) ≡ true
unfolding own_of
own-in-table a v e = members-held (word_of (table_of a) a.rows a.attempted) (table_of a) v e

pub own-unreserved : (a : Attempt) (v : ℕ) → Reachable a → elem v (own_as_answered a) ≡ true → reserved v ≡ false
own-unreserved a v r e = table-not-reserved (table_of a) v (attempt-keeps a r) (own-in-table a v e)

pub own-not-zero : (a : Attempt) (v : ℕ) → Reachable a → elem v (own_as_answered a) ≡ true → v ≡ 0 → ⊥
own-not-zero a v r e = table-not-zero (table_of a) v (attempt-keeps a r) (own-in-table a v e)

-- so it is as it is without its reserved numbers
pub own-without : (a : Attempt) → Reachable a → without_reserved (own_as_answered a) ≡ own_as_answered a
own-without a r = without-none (own_as_answered a) (λ v e. own-unreserved a v r e)

pub original-unreserved : (a : Attempt) → Reachable a → reserved a.original ≡ false
original-unreserved a r = table-not-reserved (table_of a) a.original (attempt-keeps a r) (known a r).0

-- The attempted version is in the table and in the own list
attempted-in-table : (a : Attempt) → Reachable a → elem a.attempted (table_of a) ≡ true
attempted-in-table a r = (both_true (counts_fit a) _ (reachable-passes r)).1

pub attempted-own : (a : Attempt) → Reachable a → elem a.attempted (own_as_answered a) ≡ true
unfolding own_of
attempted-own a r = (known a r).1 a.attempted (attempted-in-table a r)

-- which has no more entries than a table
pub own-few : (a : Attempt) → Reachable a → length (own_as_answered a) ≤ max_table
unfolding own_of
own-few a r =
    let few = length-members (word_of (table_of a) a.rows a.attempted) (table_of a) in
    let most = (table-counts (table_of a) (attempt-keeps a r)).1 in
    omega (arith, few, most)

-- ---- 72

-- Document 02, C-18: "a reserved Chosen falls under 72". Information that is well formed, at an attempt that is open, acted
-- or not
pub reserved-chosen : (a : Attempt) (in_use : ℕ) (bytes : List ℕ) → Reachable a → a.end ≡ end.Open → clear (form_rules bytes) ≡ true
    → reserved (chosen_of bytes) ≡ true → step_of a (Outcome in_use Given) bytes ≡ closed a 72
reserved-chosen a in_use bytes r stays formed h =
    open-outcome a in_use Given bytes stays ∙
    lowest-append (closed a) (completed a in_use) (form_rules bytes) rules ∙
    lowest-clear (closed a) (lowest (closed a) rules (completed a in_use)) (form_rules bytes) formed ∙
    rw (go (elem (chosen_of bytes) (own_as_answered a)) refl)
  where
    rules : List Rule
    rules = outcome_rules a in_use (chosen_of bytes) (available_of bytes)

    go : (b : Bool) → elem (chosen_of bytes) (own_as_answered a) ≡ b → b ≡ false
    go true e = absurd (true≢false (sym h ∙ own-unreserved a (chosen_of bytes) r e))
    go false e = refl
