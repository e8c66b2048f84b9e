-- An event of a kind and its bytes: what is handed over beyond them is not read.
use Prim.Native.Nat.{ℕ}
use mathlib.Core.List.{List}
use mathlib.Core.Path.{◌≡◌, refl, sym, ap, ◌∙◌}
use Rattle.std.specs.Prelude.{Option, None, Some}
use Rattle.std.proofs.lemmas.Option.{none-some}
use Rattle.information.specs.Presence.{Presence.Missing, Presence.Given}
use Rattle.attempt.specs.Event.{Event, Event.Datagram, Event.PacketProcessed, Event.Outcome}
use Rattle.attempt.specs.Events.{Handed}
use Rattle.attempt.specs.Step.{step_of, step_of_any, on_outcome}
use Rattle.attempt.specs.declared.Attempt.{Attempt}
use Rattle.c_record.specs.Handing.{bytes_read, handed_by}

pub handed-none : (kind : Option Event) (bytes : List ℕ) → None ≡ handed_by kind bytes → kind ≡ None
handed-none None bytes h = refl
handed-none (Some e) bytes h = absurd (none-some _ h)

-- of two that are handed over alike, events and bytes are the same
same-event : (h k : Handed) → Some h ≡ Some k → (k.event ≡ h.event) × (k.bytes ≡ h.bytes)
same-event h k e = (ap (λ (o : Option Handed). event-or o) (sym e), ap (λ (o : Option Handed). bytes-or o) (sym e))
  where
    event-or : Option Handed → Event
    event-or None = h.event
    event-or (Some x) = x.event

    bytes-or : Option Handed → List ℕ
    bytes-or None = h.bytes
    bytes-or (Some x) = x.bytes

pub handed-some : (kind : Option Event) (bytes : List ℕ) (h : Handed) → Some h ≡ handed_by kind bytes →
    (kind ≡ Some h.event) × (h.bytes ≡ bytes_read h.event bytes)
handed-some None bytes h e = absurd (none-some h (sym e))
handed-some (Some event) bytes h e =
    let same = same-event h (record { event = event; bytes = bytes_read event bytes }) e in
    (ap Some same.0, sym same.1 ∙ ap (λ (x : Event). bytes_read x bytes) same.0)

pub unread : (a : Attempt) (e : Event) (bytes : List ℕ) → step_of_any a e (bytes_read e bytes) ≡ step_of_any a e bytes
unfolding step_of_any step_of on_outcome
unread a Datagram bytes = refl
unread a PacketProcessed bytes = refl
unread a (Outcome u Given) bytes = refl
unread a (Outcome u Missing) bytes = refl
