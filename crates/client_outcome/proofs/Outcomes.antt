-- An outcome, along the code of the step: the choice made again, 72 to 75, information that is missing, refused, read.
use Prim.Native.Nat.{ℕ, ◌≤◌, ◌<◌, ◌/◌}
use mathlib.Core.Bool.{true, false, ◌||◌, or-false, or_comm}
use mathlib.Core.List.{List, [], ◌∷◌, ◌++◌}
use mathlib.Core.Path.{◌≡◌, sym, ap, ◌∙◌}
use native.Mathlib.Omega.{arith}
use lib.Dec.{eqb}
use lib.ListN.{length}
use borrow.Author.Tests.{ne_eqb}
use Rattle.refusals.specs.Reply.{refuse}
use Rattle.refusals.specs.Rule.{lowest}
use Rattle.refusals.specs.declared.Call.TheVariants.{Reading}
use Rattle.refusals.proofs.Rules.{lowest-append}
use Rattle.versions.specs.Table.{elem}
use Rattle.lists.specs.Wire.{entries, version_bytes}
use Rattle.lists.specs.declared.Span.{Span}
use Rattle.lists.proofs.Entries.{length-entries}
use Rattle.versions.proofs.Lists.{elem-append}
use Rattle.versions.proofs.Marked.{equal-turned}
use Rattle.information.specs.Information.{chosen_of, available_of, form_rules, sender_rules, versions_in, read_information}
use Rattle.information.specs.Presence.{Presence.Given}
use Rattle.information.specs.declared.Sender.TheVariants.{Server}
use Rattle.information.proofs.Readings.{Known, read_rules, read-refused, known-available, known-clear}
use Rattle.attempt.specs.Step.{After, closed, completed, outcome_rules, information_rules}
use Rattle.attempt.specs.declared.Attempt.{Attempt}
use Rattle.client_outcome.specs.Judgements.{ends_by}

-- Whether a list on the wire has an entry

pub no_entries : (s : List ℕ) → length s < version_bytes → eqb (length (entries s)) 0 ≡ true
no_entries s h = let e : length s / version_bytes ≡ 0 = omega arith in rw (length-entries s, e)

pub some_entries : (s : List ℕ) → version_bytes ≤ length s → eqb (length (entries s)) 0 ≡ false
some_entries s h = rw (length-entries s) (ne_eqb (length s / version_bytes) 0 (omega arith))

-- The choice made again: Available with the version in use behind it

pub listed_either : (v u : ℕ) (l : List ℕ) → elem v (l ++ (u ∷ [])) ≡ (eqb v u || elem v l)
unfolding elem
listed_either v u l =
    elem-append v l (u ∷ []) ∙ ap (λ b. elem v l || b) (or-false (eqb u v)) ∙ or_comm (elem v l) (eqb u v) ∙
    ap (λ b. b || elem v l) (equal-turned u v)

-- 72 to 75, for what was read
abbrev pub outcome : Attempt → ℕ → ℕ → List ℕ → After
outcome a u c l = ends_by a u (outcome_rules a u c l)

-- The information is given

-- A server's information never breaks 36: the reader judges it by 31 to 35 alone
server-rules : {B : Type 0} (refusal : ℕ → B) (other : B) (bytes : List ℕ) →
    lowest refusal (read_rules Server bytes) other ≡ lowest refusal (form_rules bytes) other
server-rules refusal other bytes =
    lowest-append refusal other (form_rules bytes) (sender_rules Server (chosen_of bytes) (available_of bytes))

module _ (a : Attempt) (u : ℕ) (bytes : List ℕ) where
  abbrev pub given : After
  given = ends_by a u (information_rules a u Given bytes)

  abbrev read : After
  read = outcome a u (chosen_of bytes) (available_of bytes)

  -- the reader's rules come first
  apart : given ≡ lowest (closed a) (read_rules Server bytes) read
  apart =
      lowest-append (closed a) (completed a u) (form_rules bytes) (outcome_rules a u (chosen_of bytes) (available_of bytes)) ∙
      sym (server-rules (closed a) read bytes)

  pub given-refused : (n : ℕ) → refuse Reading n ≡ read_information Server bytes → closed a n ≡ given
  given-refused n e = read-refused Server bytes (closed a) read n e ∙ sym apart

  pub given-read : (c : ℕ) (s : Span) → Known Server bytes c s → outcome a u c (versions_in bytes s) ≡ given
  given-read c s r =
      rw (r.chosen_is, known-available Server bytes c s r)
      (sym (apart ∙ known-clear Server bytes (closed a) read c s r))
