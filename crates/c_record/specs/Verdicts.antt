-- What a verdict does to the record without enums, field by field. Private functions promise this; no public promise
-- names it.
use Rattle.std.specs.Prelude.{ℕ}
use Rattle.refusals.specs.Reply.{refusal_of}
use Rattle.client_verdict.specs.Verdicts.{attempted_after, journal_after, reply_of}
use Rattle.client_verdict.specs.declared.Verdict.{Verdict}
use Rattle.client_verdict.specs.declared.Verdict.TheVariants.{Unchanged, Closed, Acted, Noted, Completed}
use Rattle.c_record.specs.Records.{Left}
use Rattle.c_record.specs.declared.Record.{Record}

abbrev pub acted_number : ℕ → Verdict → ℕ
acted_number b (Unchanged r) = b
acted_number b (Closed r) = b
acted_number b (Acted v) = 1
acted_number b Noted = b
acted_number b (Completed v) = b

abbrev pub heard_number : ℕ → Verdict → ℕ
heard_number b (Unchanged r) = b
heard_number b (Closed r) = b
heard_number b (Acted v) = b
heard_number b Noted = 1
heard_number b (Completed v) = b

abbrev pub mark_after : ℕ → Verdict → ℕ
mark_after m (Unchanged r) = m
mark_after m (Closed r) = 2
mark_after m (Acted v) = m
mark_after m Noted = m
mark_after m (Completed v) = 1

abbrev pub value_after : ℕ → Verdict → ℕ
value_after x (Unchanged r) = x
value_after x (Closed r) = r.0
value_after x (Acted v) = x
value_after x Noted = x
value_after x (Completed v) = v

-- The record and the number after a verdict
abbrev pub applied_record : Record → Verdict → Left
applied_record h v =
    record {
      left = record {
        rows = h.rows;
        table = h.table;
        destination = h.destination;
        source = h.source;
        table_len = h.table_len;
        destination_len = h.destination_len;
        source_len = h.source_len;
        original = h.original;
        attempted = attempted_after h.attempted v;
        acted = acted_number h.acted v;
        heard = heard_number h.heard v;
        end_mark = mark_after h.end_mark v;
        end_value = value_after h.end_value v;
        journal = journal_after h.journal v;
      };
      refusal = refusal_of (reply_of v);
    }
