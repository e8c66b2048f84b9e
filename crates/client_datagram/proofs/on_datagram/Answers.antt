-- `on_datagram` meets its contract: what the header reader answers tells whether 61 applies and where the parts lie.
use mathlib.Core.Bool.{false}
use mathlib.Core.Path.{◌≡◌, refl, ap, ◌∙◌}
use Rattle.std.specs.Prelude.{Result, Ok}
use Rattle.refusals.specs.declared.Refusal.{Refusal}
use Rattle.invariants.specs.Header.{header_reply}
use Rattle.invariants.specs.declared.Header.{Header}
use Rattle.invariants.specs.declared.Header.TheVariants.{Long, Short, VersionNegotiation}
use Rattle.lists.specs.declared.Span.{Span}
use Rattle.invariants.proofs.Negotiations.{negotiation_in, readable-by-reply, answered-by-reply}
use Rattle.attempt.specs.Step.{unchanged, on_datagram}
use Rattle.client_datagram.proofs.on_datagram.Goals.{After-read_header}
use Rattle.client_datagram.proofs.on_datagram.Goals as goal

-- any answer but Version Negotiation is a 61
not-negotiation : (c : After-read_header) (other : Result Header Refusal) → negotiation_in (header_reply other) ≡ false →
    c.read_header.result ≡ other → let g = c.args in unchanged g.fitting.attempt 61 ≡ on_datagram g.fitting.attempt g.datagram.now
unfolding on_datagram
not-negotiation c other n e = rw
    (readable-by-reply c.args.datagram.now c.read_header.result c.read_header.ensures ∙
    ap (λ (r : Result Header Refusal). negotiation_in (header_reply r)) e ∙
    n)

no-negotiation : (h : Header) → ((D S L : Span) → h ≡ VersionNegotiation D S L → ⊥) → negotiation_in (header_reply (Ok h)) ≡ false
no-negotiation (Long v D S R) n = refl
no-negotiation (Short D R) n = refl
no-negotiation (VersionNegotiation D S L) n = absurd (n D S L refl)

pub invariant_of-packet : goal.invariant_of-packet
invariant_of-packet c = record {
  parts = answered-by-reply c.args.datagram.now _ _ _ _ c.read_header.ensures (c.in-Ok.is ∙ ap Ok c.in-VersionNegotiation.is);
}

pub returns-in_default : goal.returns-in_default
returns-in_default c = not-negotiation (goal.at.returns-in_default c).After-read_header _ refl c.in_default.is

pub returns-in_default-header : goal.returns-in_default-header
returns-in_default-header c =
    not-negotiation (goal.at.returns-in_default-header c).After-read_header (Ok c.in-Ok.header)
    (no-negotiation c.in-Ok.header c.in_default-header.not-VersionNegotiation)
    c.in-Ok.is
