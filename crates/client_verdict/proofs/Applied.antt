-- A verdict, applied: field by field, as the code does it; and that on an open attempt no two verdicts do the same.
use Prim.Native.Nat.{ℕ}
use mathlib.Core.Bool.{Bool, true, false, cond}
use mathlib.Core.Path.{◌≡◌, refl, sym, ap, ◌∙◌}
use lib.Dec.{eqb}
use Rattle.refusals.specs.Reply.{Reply, Reply.refused, Reply.answered, refusal_of}
use Rattle.refusals.proofs.Injective.{numbered}
use Rattle.journal.specs.Journals.{note_of}
use Rattle.attempt.specs.Attempt.{is_open, put, with_journal}
use Rattle.attempt.specs.Journaled.{journaled, journaled_any}
use Rattle.attempt.specs.Limits.{not_a_record}
use Rattle.attempt.specs.Step.{After, Effect, Effect.acts, Effect.notes, Effect.completes}
use Rattle.attempt.specs.declared.Attempt.{Attempt}
use Rattle.attempt.specs.declared.End.TheVariants.{Open}
use Rattle.client_verdict.specs.Verdicts.{applied, journal_after, attempted_after, acted_after, heard_after, end_after, reply_of}
use Rattle.client_verdict.specs.declared.Verdict.{Verdict}
use Rattle.client_verdict.specs.declared.Verdict.TheVariants.{Unchanged, Closed, Acted, Noted, Completed}

abbrev pub changed_fields : Attempt → Verdict → Attempt
changed_fields a v =
    put a (attempted_after a.attempted v) (acted_after a.acted v) (heard_after a.heard v) (end_after a.end v)

pub applied-fields : (a : Attempt) (v : Verdict) → record { attempt = changed_fields a v; reply = reply_of v } ≡ applied a v
applied-fields a (Unchanged r) = refl
applied-fields a (Closed r) = refl
applied-fields a (Acted v) = refl
applied-fields a Noted = refl
applied-fields a (Completed v) = refl

-- And with its answer noted, as the code does it: the journal of what the verdict left is the one that was there
pub journaled-fields : (a : Attempt) (v : Verdict) →
    record { attempt = with_journal (changed_fields a v) (journal_after a.journal v); reply = reply_of v } ≡ journaled_any (applied a v)
journaled-fields a v =
    go (eqb (refusal_of (reply_of v)) not_a_record) ∙ ap journaled_any (applied-fields a v)
  where
    left : After
    left = record { attempt = changed_fields a v; reply = reply_of v }

    go : (b : Bool) →
        record {
          attempt = with_journal (changed_fields a v) (cond b a.journal (note_of a.journal (refusal_of (reply_of v))));
          reply = reply_of v;
        } ≡
        cond b left (journaled left)
    go true = refl
    go false = refl

-- The verdict on an open attempt, read from what it did

refusing : Bool → ℕ → Verdict
refusing true n = Unchanged (numbered n)
refusing false n = Closed (numbered n)

verdict_in : Bool → Reply Effect → Verdict
verdict_in open? (refused n c) = refusing open? n
verdict_in open? (answered (acts v)) = Acted v
verdict_in open? (answered notes) = Noted
verdict_in open? (answered (completes v)) = Completed v

verdict-back : (a : Attempt) (v : Verdict) → a.end ≡ Open →
    verdict_in (is_open (applied a v).attempt.end) (applied a v).reply ≡ v
unfolding verdict_in refusing
verdict-back a (Unchanged r) h = rw (ap is_open h)
verdict-back a (Closed r) h = refl
verdict-back a (Acted v) h = refl
verdict-back a Noted h = refl
verdict-back a (Completed v) h = refl

-- On an attempt that has ended, a refusal that leaves it and one that ends it again with the same number do the same.
pub verdict-injective : (a : Attempt) (v w : Verdict) → a.end ≡ Open → applied a v ≡ applied a w → v ≡ w
verdict-injective a v w h e =
    sym (verdict-back a v h) ∙
    ap (λ (s : After). verdict_in (is_open s.attempt.end) s.reply) e ∙
    verdict-back a w h
