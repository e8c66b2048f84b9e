-- What the client's call writes (document 02, C-18): it is Version Information as a client may send it, so the reader reads it
-- back and never answers 31 to 36; and without its reserved numbers its list is the own list. With none given it is what the
-- writer of information writes.
use Prim.Native.Nat.{ℕ, ◌+◌, ◌*◌, ◌^◌, ◌<◌, ◌≤◌}
use mathlib.Core.Bool.{Bool, true, false, not}
use mathlib.Core.List.{List, [], ◌∷◌}
use mathlib.Core.Path.{◌≡◌, refl, ap, subst, ◌∙◌}
use native.Mathlib.Omega.{arith}
use lib.Dec.{ltb}
use lib.ListN.{length}
use borrow.Author.Tests.{ltb-false, le-ltb, ne_eqb, not-true, not-false}
use Rattle.refusals.specs.Reply.{Reply.answered, refuse}
use Rattle.refusals.specs.Rule.{Rule.◌when◌, lowest}
use Rattle.refusals.specs.declared.Call.TheVariants.{Writing}
use Rattle.refusals.proofs.Rules.{both_true, answer-given}
use Rattle.versions.specs.Reserved.{without_reserved}
use Rattle.versions.specs.Table.{elem}
use Rattle.versions.proofs.WithoutReserved.{zero-unreserved}
use Rattle.lists.specs.Wire.{all_below, version_bytes}
use Rattle.information.specs.Information.{information_bytes, information_length, information_to_write}
use Rattle.information.specs.Laws.{ReadAs}
use Rattle.information.specs.Limits.{max_available}
use Rattle.information.specs.declared.Sender.TheVariants.{Client}
use Rattle.information.proofs.Kept.{Kept, write-answers}
use Rattle.information.proofs.RoundTrip.{written_read}
use Rattle.attempt.specs.AsSent.{sent_count, list_as_sent, each_given_keeps_rule, given_keep_rule}
use Rattle.attempt.specs.Attempt.{own_as_answered, own_as_sent}
use Rattle.attempt.specs.Events.{Reachable}
use Rattle.attempt.specs.declared.Attempt.{Attempt}
use Rattle.attempt.proofs.AsSent.{length-sent, given-few, sent-nothing, sent-without, sent-elem}
use Rattle.attempt.proofs.ReservedChosen.{own-unreserved, own-without, attempted-own, own-few, own-not-zero}
use Rattle.client_information.specs.ClientInformation.{sent_length, sent_rules, information_as_sent, client_information_of}

-- Neither 37 nor 47 applies, and the bytes are those of the list as sent
record Sent (chosen : ℕ) (own : List ℕ) (given : List (List ℕ)) (room : ℕ) (bytes : List ℕ) : Type 0 where
  fits : sent_length own given ≤ room
  rule : given_keep_rule (sent_count own given) given ≡ true
  is : information_bytes chosen (list_as_sent own given) ≡ bytes

sent : (chosen : ℕ) (own : List ℕ) (given : List (List ℕ)) (room : ℕ) (bytes : List ℕ) →
    information_as_sent chosen own given room ≡ answered bytes → Sent chosen own given room bytes
unfolding information_as_sent
sent chosen own given room bytes h =
    let p = answer-given Writing (sent_rules own given room) (information_bytes chosen (list_as_sent own given)) bytes h in
    let room-left = both_true (not (ltb room (sent_length own given))) _ p.0 in
    let kept = both_true (not (not (given_keep_rule (sent_count own given) given))) true room-left.1 in
    record {
      fits = ltb-false _ _ (not-true _ room-left.0);
      rule = not-false _ (not-true _ kept.0);
      is = p.1;
    }

-- What the writer of information asks of a client's, of the list as sent with numbers that keep their rule
module _ (a : Attempt) (given : List (List ℕ)) (r : Reachable a)
    (rule : given_keep_rule (sent_count (own_as_answered a) given) given ≡ true) where
  -- Document 01: "0 to 255 Available Versions"
  sent-few : length (own_as_sent a given) ≤ max_available
  sent-few =
      let count = length-sent (own_as_answered a) given in
      let own = own-few a r in
      let added = given-few (sent_count (own_as_answered a) given) given rule in
      omega arith

  -- neither the attempted version nor an Available one is 0, and the attempted version is among them
  sent-kept : Kept Client a.attempted (own_as_sent a given)
  sent-kept =
      let unreserved = own-unreserved a a.attempted r (attempted-own a r) in
      record {
        chosen-given = ne_eqb a.attempted 0 (own-not-zero a a.attempted r (attempted-own a r));
        none-zero = sent-elem (own_as_answered a) given 0 rule zero-unreserved ∙ no_zero (elem 0 (own_as_answered a)) refl;
        among = ap not (sent-elem (own_as_answered a) given a.attempted rule unreserved ∙ attempted-own a r);
      }
    where
      no_zero : (b : Bool) → elem 0 (own_as_answered a) ≡ b → elem 0 (own_as_answered a) ≡ false
      no_zero true e = absurd (own-not-zero a 0 r e refl)
      no_zero false e = e

module _ (a : Attempt) (given : List (List ℕ)) (room : ℕ) (bytes : List ℕ) (r : Reachable a)
    (h : client_information_of a given room ≡ answered bytes) where
  its : Sent a.attempted (own_as_answered a) given room bytes
  its = sent a.attempted (own_as_answered a) given room bytes h

  pub client-bytes : information_bytes a.attempted (own_as_sent a given) ≡ bytes
  client-bytes = its.is

  pub client-few : length (own_as_sent a given) ≤ max_available
  client-few = sent-few a given r its.rule

  -- The writer of information writes the same, for a client
  pub client-writes : information_to_write Client a.attempted (own_as_sent a given) room ≡ answered bytes
  client-writes =
      let long : information_length (own_as_sent a given) ≡ sent_length (own_as_answered a) given =
      ap (λ (n : ℕ). version_bytes + version_bytes * n) (length-sent (own_as_answered a) given) in
      let fits = its.fits in
      write-answers Client a.attempted (own_as_sent a given) room
      (record { few = client-few; others = sent-kept a given r its.rule; fits = omega arith }) ∙
      ap answered client-bytes

  -- So the reader reads it as a client's, and never answers 31 to 36: the attempted version as Chosen, and the own list as sent
  pub client-read : a.attempted < 2 ^ 32 → all_below (2 ^ 32) (own_as_sent a given) ≡ true
      → ReadAs Client bytes a.attempted (own_as_sent a given)
  client-read small below = written_read Client a.attempted (own_as_sent a given) room bytes small below client-writes

  -- whose list without reserved numbers is the own list
  pub client-own : without_reserved (own_as_sent a given) ≡ own_as_answered a
  client-own = sent-without (own_as_answered a) given its.rule ∙ own-without a r

-- A last rule that does not apply changes nothing
last-passes : {B : Type 0} (refusal : ℕ → B) (n m : ℕ) (b : Bool) (other : B) →
    lowest refusal ((n when b) ∷ (m when false) ∷ []) other ≡ lowest refusal ((n when b) ∷ []) other
last-passes refusal n m true other = refl
last-passes refusal n m false other = refl

-- With nothing given the call answers what the writer of information answers for the attempted version and the own list
pub client-with-nothing : (a : Attempt) (room : ℕ) → Reachable a →
    client_information_of a [] room ≡ information_to_write Client a.attempted (own_as_answered a) room
unfolding information_as_sent information_to_write given_keep_rule each_given_keeps_rule
client-with-nothing a room r =
    let nothing = sent-nothing (own_as_answered a) in
    let none : length (own_as_answered a) + 0 ≡ length (own_as_answered a) = omega arith in
    let few : length (own_as_answered a) ≤ max_available = omega (arith, own-few a r) in
    let kept : Kept Client a.attempted (own_as_answered a) = subst (Kept Client a.attempted) nothing (sent-kept a [] r refl) in
    rw (
      nothing,
      none,
      le-ltb max_available (length (own_as_answered a)) few,
      kept.chosen-given,
      kept.none-zero,
      kept.among,
    )
    (last-passes (refuse Writing) 37 47 (ltb room (information_length (own_as_answered a))) _)
