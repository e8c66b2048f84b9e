-- A verdict on the record without enums is the verdict on its attempt.
use mathlib.Core.Bool.{true}
use mathlib.Core.Path.{◌≡◌, refl, sym, ap, ◌∙◌}
use Rattle.attempt.specs.Attempt.{with_journal}
use Rattle.attempt.specs.Journaled.{journaled_any}
use Rattle.attempt.specs.declared.Attempt.{Attempt}
use Rattle.client_verdict.specs.Verdicts.{applied, journal_after, reply_of}
use Rattle.client_verdict.specs.declared.Verdict.{Verdict}
use Rattle.client_verdict.specs.declared.Verdict.TheVariants.{Unchanged, Closed, Acted, Noted, Completed}
use Rattle.client_verdict.proofs.Applied.{changed_fields, journaled-fields}
use Rattle.c_record.specs.Records.{marks_fit, attempt_of, record_of, left_after}
use Rattle.c_record.specs.Verdicts.{applied_record}
use Rattle.c_record.specs.declared.Record.{Record}
use Rattle.c_record.proofs.Records.{record-back}

-- A verdict changes the fields of the record as it changes those of the attempt; the journal is one field of both
fields-of : (a : Attempt) (v : Verdict) →
    left_after (record { attempt = with_journal (changed_fields a v) (journal_after a.journal v); reply = reply_of v }) ≡
    applied_record (record_of a) v
unfolding record_of
fields-of a (Unchanged r) = refl
fields-of a (Closed r) = refl
fields-of a (Acted v) = refl
fields-of a Noted = refl
fields-of a (Completed v) = refl

verdict-of : (a : Attempt) (v : Verdict) → left_after (journaled_any (applied a v)) ≡ applied_record (record_of a) v
verdict-of a v = ap left_after (sym (journaled-fields a v)) ∙ fields-of a v

pub verdict-left : (r : Record) → marks_fit r ≡ true → (v : Verdict) →
    applied_record r v ≡ left_after (journaled_any (applied (attempt_of r) v))
verdict-left r h v = sym (verdict-of (attempt_of r) v ∙ ap (λ (x : Record). applied_record x v) (record-back r h))
