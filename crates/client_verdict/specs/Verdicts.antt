-- What a verdict does to the record, and what it answers.
use Rattle.std.specs.Prelude.{ℕ, Bool, true, cond, eqb}
use Rattle.refusals.specs.Reply.{Reply, Reply.answered, refuse, refusal_of}
use Rattle.refusals.specs.declared.Call.TheVariants.{Reading}
use Rattle.journal.specs.Journals.{note_of}
use Rattle.journal.specs.declared.Journal.{Journal}
use Rattle.attempt.specs.Attempt.{put}
use Rattle.attempt.specs.Limits.{not_a_record}
use Rattle.attempt.specs.Step.{After, unchanged, closed, completed, after, Effect, Effect.acts, Effect.notes, Effect.completes}
use Rattle.attempt.specs.declared.Attempt.{Attempt}
use Rattle.attempt.specs.declared.End.{End}
use Rattle.attempt.specs.declared.End.TheVariants as end
use Rattle.client_verdict.specs.declared.Verdict.{Verdict}
use Rattle.client_verdict.specs.declared.Verdict.TheVariants.{Unchanged, Closed, Acted, Noted, Completed}

-- The cases of `Verdict`: the record and the answer after each
abbrev pub applied : Attempt → Verdict → After
applied a (Unchanged r) = unchanged a r.0
applied a (Closed r) = closed a r.0
applied a (Acted v) = after (put a v true a.heard a.end) (acts v)
applied a Noted = after (put a a.attempted a.acted true a.end) notes
applied a (Completed v) = completed a v

-- The same field by field, as the code does it

abbrev pub attempted_after : ℕ → Verdict → ℕ
attempted_after attempted (Unchanged r) = attempted
attempted_after attempted (Closed r) = attempted
attempted_after attempted (Acted v) = v
attempted_after attempted Noted = attempted
attempted_after attempted (Completed v) = attempted

abbrev pub acted_after : Bool → Verdict → Bool
acted_after acted (Unchanged r) = acted
acted_after acted (Closed r) = acted
acted_after acted (Acted v) = true
acted_after acted Noted = acted
acted_after acted (Completed v) = acted

abbrev pub heard_after : Bool → Verdict → Bool
heard_after heard (Unchanged r) = heard
heard_after heard (Closed r) = heard
heard_after heard (Acted v) = heard
heard_after heard Noted = true
heard_after heard (Completed v) = heard

abbrev pub end_after : End → Verdict → End
end_after e (Unchanged r) = e
end_after e (Closed r) = end.Closed r
end_after e (Acted v) = e
end_after e Noted = e
end_after e (Completed v) = end.Completed v

abbrev pub reply_of : Verdict → Reply Effect
reply_of (Unchanged r) = refuse Reading r.0
reply_of (Closed r) = refuse Reading r.0
reply_of (Acted v) = answered (acts v)
reply_of Noted = answered notes
reply_of (Completed v) = answered (completes v)

-- The journal after a verdict: its answer is noted, but for the number outside document 01
abbrev pub journal_after : Journal → Verdict → Journal
journal_after j v = let n = refusal_of (reply_of v) in cond (eqb n not_a_record) j (note_of j n)
