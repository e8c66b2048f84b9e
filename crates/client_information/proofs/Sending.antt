-- The list as sent, put into a buffer entry by entry: those that were put, and those from the place on, make up the whole.
use Prim.Native.Nat.{ℕ, suc, ◌+◌, ◌*◌, ◌-◌, ◌≤◌, ◌<◌}
use mathlib.Core.List.{List, [], ◌∷◌, ◌++◌, append_assoc, append-nil}
use Rattle.std.specs.Prelude.{Option, None, Some}
use mathlib.Core.Path.{◌≡◌, refl, sym, ap, ◌∙◌}
use native.Mathlib.Nat.{sub-zero}
use native.Mathlib.Numerals.{add-one}
use native.Mathlib.Omega.{arith}
use lib.ListN.{length, drop, length-append}
use lib.Seq.{drop-drop}
use Rattle.lists.specs.Wire.{bytes_of, list_bytes, version_bytes, after_put}
use Rattle.lists.proofs.Entries.{length-list_bytes, list_bytes-append, after_put-room}
use Rattle.lists.proofs.Places.{part_from, length-part_from, put_from, over, length-put}
use Rattle.information.specs.Information.{information_bytes}
use Rattle.attempt.specs.AsSent.{given_for, sent_at, own_after, sent_from, sent_count, list_as_sent}
use Rattle.attempt.proofs.AsSent.{length-sent}
use Rattle.client_information.specs.ClientInformation.{sent_length}
use Rattle.client_information.specs.Parts.{next_after}

-- ---- the list

-- Its bytes
length-sent-bytes : (own : List ℕ) (given : List (List ℕ)) → length (list_bytes (list_as_sent own given)) ≡ version_bytes * sent_count own given
length-sent-bytes own given = length-list_bytes (list_as_sent own given) ∙ ap (λ (n : ℕ). version_bytes * n) (length-sent own given)

-- The own list from the place that is next
own-next : (o : Option ℕ) (own : List ℕ) (next : ℕ) → own_after o (drop next own) ≡ drop (next_after o next) own
own-next (Some number) own next = refl
own-next None own next = drop-drop 1 next own

-- and that place is at most one further
next-behind : (o : Option ℕ) (next place : ℕ) → next ≤ place → next_after o next ≤ place + 1
next-behind (Some number) next place h = omega arith
next-behind None next place h = omega arith

-- From a place on: the entry there, and those behind it
sent-next :
    (count place next after version : ℕ) (own : List ℕ) (given : List (List ℕ)) (o : Option ℕ) →
    place < count → o ≡ given_for given place → version ≡ sent_at o (drop next own) → after ≡ next_after o next →
    sent_from (count - place) place (drop next own) given ≡ version ∷ sent_from (count - (place + 1)) (place + 1) (drop after own) given
unfolding sent_from
sent-next count place next after version own given o h reply v a =
    let one : count - place ≡ suc (count - (place + 1)) = omega arith in
    rw (one, sym reply, own-next o own next, add-one, v, a)

-- Past its last place there is nothing
sent-none : (count place : ℕ) (own : List ℕ) (given : List (List ℕ)) → count ≤ place → sent_from (count - place) place own given ≡ []
unfolding sent_from
sent-none count place own given h = let none_left : count - place ≡ 0 = omega arith in rw none_left

-- ---- the buffer

-- At a place: `done` was put, and the own version at `next` is the next one
pub record Sending (own : List ℕ) (given : List (List ℕ)) (found buffer : List ℕ) (next place : ℕ) : Type 0 where
  pub done : List ℕ
  pub counted : length done ≡ place
  pub begins : buffer ≡ list_bytes done ++ drop (length (list_bytes done)) found
  pub whole : done ++ sent_from (sent_count own given - place) place (drop next own) given ≡ list_as_sent own given
  pub behind : next ≤ place
  pub kept : length buffer ≡ length found

-- At the front nothing was put
pub sending-begins : (own : List ℕ) (given : List (List ℕ)) (found : List ℕ) → Sending own given found found 0 0
unfolding list_bytes list_as_sent
sending-begins own given found =
    record { done = []; counted = refl; begins = refl; whole = rw (sub-zero (sent_count own given)); behind = omega arith; kept = refl }

module _ {own : List ℕ} {given : List (List ℕ)} {found buffer : List ℕ} {next place : ℕ} (s : Sending own given found buffer next place) where
  -- What was put has four bytes for each place
  put-length : length (list_bytes s.done) ≡ place * version_bytes
  put-length = let e = s.counted in omega (arith, length-list_bytes s.done)

  -- One entry more
  pub sending-turn :
      {o : Option ℕ} {version after : ℕ} {part : List ℕ} → version_bytes * sent_count own given ≤ length found → place < sent_count own given →
      o ≡ given_for given place → version ≡ sent_at o (drop next own) → after ≡ next_after o next →
      part ≡ after_put (version ∷ []) (part_from (place * version_bytes) buffer) →
      Sending own given found (put_from (place * version_bytes) buffer part) after (place + 1)
  unfolding list_bytes
  sending-turn {o} {version} {after} {part} room inside reply v a p =
      let at = place * version_bytes in
      let more = s.done ++ (version ∷ []) in
      let longer : length more ≡ place + 1 = let e = s.counted in omega (arith, length-append s.done (version ∷ [])) in
      let fits : version_bytes ≤ length (part_from at buffer) = let k = s.kept in omega (arith, length-part_from at buffer) in
      let put : put_from at buffer part ≡ list_bytes more ++ drop (length (list_bytes more)) found =
      over (list_bytes s.done) (list_bytes (version ∷ [])) found buffer part at (sym put-length) s.begins
      (p ∙ after_put-room (version ∷ []) (part_from at buffer) fits)
      ∙ ap (λ (l : List ℕ). l ++ drop (length l) found) (sym (list_bytes-append s.done (version ∷ []))) in
      let next_one = sent-next (sent_count own given) place next after version own given o inside reply v a in
      let inner : length (list_bytes more) ≤ length found = omega (arith, length-list_bytes more) in
      record {
        done = more;
        counted = longer;
        begins = put;
        whole = append_assoc s.done (version ∷ []) _ ∙ ap (λ (l : List ℕ). s.done ++ l) (sym next_one) ∙ s.whole;
        behind = rw a (next-behind o next place s.behind);
        kept = ap length put ∙ length-put (list_bytes more) found inner;
      }

  -- All are put
  pub sending-ends : sent_count own given ≤ place → buffer ≡ list_bytes (list_as_sent own given) ++ drop (version_bytes * sent_count own given) found
  sending-ends h =
      let no_more = sent-none (sent_count own given) place (drop next own) given h in
      let all : s.done ≡ list_as_sent own given =
      sym (append-nil s.done) ∙ ap (λ (l : List ℕ). s.done ++ l) (sym no_more) ∙ s.whole in
      s.begins ∙ rw (all, length-sent-bytes own given)

-- ---- the information

-- The Chosen Version put at the front of a buffer, then the list as sent behind it: a writer's count, and its buffer
pub sent-both :
    (chosen : ℕ) (own : List ℕ) (given : List (List ℕ)) (found first rest : List ℕ) →
    let bytes = information_bytes chosen (list_as_sent own given) in
    sent_length own given ≤ length found → first ≡ after_put (chosen ∷ []) found →
    rest ≡ list_bytes (list_as_sent own given) ++ drop (version_bytes * sent_count own given) (part_from version_bytes first) →
    (sent_length own given ≡ length bytes) × (put_from version_bytes first rest ≡ bytes ++ drop (length bytes) found)
unfolding list_bytes
sent-both chosen own given found first rest room f r =
    let n = length-sent-bytes own given in
    let list = list_bytes (list_as_sent own given) in
    let one = f ∙ after_put-room (chosen ∷ []) found (omega arith) in
    let others = r ∙ ap (λ (k : ℕ). list ++ drop k (part_from version_bytes first)) (sym n) in
    (omega arith, over (bytes_of chosen) list found first rest version_bytes refl one others)
