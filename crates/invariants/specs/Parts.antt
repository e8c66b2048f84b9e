-- Where the parts of a readable Version Negotiation packet lie. Private functions ask for this; no public promise
-- names it.
use Rattle.std.specs.Prelude.{ℕ, ◌+◌, ◌≤◌, true, List, ◌≡◌, length}
use Rattle.lists.specs.declared.Span.{Span}
use Rattle.invariants.specs.Header.{is_readable_negotiation, destination_length, source_start, rest_start, span}

pub record Parts (datagram : List ℕ) (destination source list : Span) : Type 0 where
  pub readable : is_readable_negotiation datagram ≡ true
  -- no field runs past the end
  pub within : rest_start datagram ≤ length datagram
  pub destination-is : destination ≡ span 6 (6 + destination_length datagram)
  pub source_is : source ≡ span (source_start datagram) (rest_start datagram)
  pub list-is : list ≡ span (rest_start datagram) (length datagram)
