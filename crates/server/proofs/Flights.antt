-- The choice after a first flight along its code: the walk over the accepted versions, and what the reader of the
-- client's Version Information answered.
use Prim.Native.Nat.{ℕ, ◌+◌, ◌/◌, ◌<◌, ◌≤◌}
use mathlib.Core.Bool.{Bool, true, false, not, ◌&&◌, ◌||◌}
use mathlib.Core.List.{List, [], ◌∷◌}
use mathlib.Core.Path.{◌≡◌, refl, sym, ap, ◌∙◌}
use borrow.Author.Tests.{eq-eqb, ne_eqb}
use lib.Dec.{eqb}
use lib.ListN.{length, take, drop, get_or, drop_of_length-le}
use Rattle.refusals.specs.Reply.{Reply, Reply.answered, refuse}
use Rattle.refusals.specs.Rule.{Rule.◌when◌, judged}
use Rattle.refusals.specs.declared.Call.TheVariants.{Reading}
use Rattle.refusals.proofs.Rules.{lowest-append}
use Rattle.lists.specs.declared.Span.{Span}
use Rattle.versions.specs.Pairs.{from_of, to_of, paired}
use Rattle.versions.specs.Table.{elem, table_keeps_rule}
use Rattle.versions.specs.Words.{word_bits, bit_at, word_where, word_from, marked}
use Rattle.versions.proofs.Bits.{lowest-bit, rest-bits, bit-says}
use Rattle.versions.proofs.Lists.{drop-next, table-entries}
use Rattle.versions.proofs.Marked.{word-of-all, from-none, from-pair, from-other}
use Rattle.information.specs.Information.{chosen_of, available_of, versions_in, read_information}
use Rattle.information.specs.Presence.{Presence.Given}
use Rattle.information.specs.declared.Sender.TheVariants.{Client}
use Rattle.information.proofs.Readings.{Known, read_known, read_rules, read-refused, known-available, known-clear}
use Rattle.server.specs.FirstFlight.{Act, Act.negotiate, Act.use-version, may_use, first_accepted, with_information}

-- `first_accepted` at a place of the walk: what the version there decides, what it leaves, and the end
module _ (pairs : List (List ℕ)) (barred : List ℕ) (chosen : ℕ) (available accepted : List ℕ) (i : ℕ) where
  pub accepted-here : i < length accepted → may_use pairs barred chosen available (get_or accepted i 0) ≡ true →
      first_accepted (drop i accepted) pairs barred chosen available ≡ use-version (get_or accepted i 0)
  unfolding first_accepted
  accepted-here h e = rw (drop-next accepted i 0 h, e)

  pub accepted-next : i < length accepted → may_use pairs barred chosen available (get_or accepted i 0) ≡ false →
      first_accepted (drop i accepted) pairs barred chosen available ≡ first_accepted (drop (i + 1) accepted) pairs barred chosen available
  unfolding first_accepted
  accepted-next h e = rw (drop-next accepted i 0 h, e)

  pub accepted-end : length accepted ≤ i → first_accepted (drop i accepted) pairs barred chosen available ≡ negotiate
  unfolding first_accepted
  accepted-end h = rw (drop_of_length-le accepted h)

-- What may be used: the version is Chosen or paired from it, and is not barred, or is Chosen
not-barred : (chosen? paired? barred? : Bool) →
    (chosen? || (paired? && not barred?)) ≡ ((chosen? || paired?) && not (not chosen? && barred?))
not-barred true p b = refl
not-barred false p b = refl

-- The word of the versions that are Chosen or paired from it, at a place of the walk: its lowest bit is that of the
-- version there, and the rest of its bits are those of the rest
module _ (pairs : List (List ℕ)) (chosen : ℕ) (accepted : List ℕ) (i word : ℕ) where
  abbrev here : ℕ
  here = get_or accepted i 0

  pub use-told : (barred available : List ℕ) → i < length accepted → word ≡ word_from (drop i accepted) pairs chosen →
      may_use pairs barred chosen available here ≡
      (elem here available && (bit_at word 0 && not (not (eqb here chosen) && elem here barred)))
  unfolding may_use word_where
  use-told barred available h e =
      let b = eqb here chosen || paired pairs chosen here in
      rw (e, drop-next accepted i 0 h, lowest-bit b (word_from (drop (i + 1) accepted) pairs chosen), bit-says b)
      (ap (λ (u : Bool). elem here available && u) (not-barred (eqb here chosen) (paired pairs chosen here) (elem here barred)))

  pub word-rest : i < length accepted → word ≡ word_from (drop i accepted) pairs chosen →
      word / 2 ≡ word_from (drop (i + 1) accepted) pairs chosen
  unfolding word_where
  word-rest h e =
      let b = eqb here chosen || paired pairs chosen here in
      rw (e, drop-next accepted i 0 h, rest-bits b (word_from (drop (i + 1) accepted) pairs chosen))

-- The walk down the pairs, marking the places: its end, a pair from Chosen, and another pair
module _ (accepted : List ℕ) (kept : table_keeps_rule accepted ≡ true) (chosen : ℕ) where
  pub from-end : marked (take word_bits accepted) chosen 0 ≡ word_from accepted [] chosen
  from-end = rw (word-of-all accepted kept) (from-none accepted (table-entries accepted kept) chosen)

  module _ (pair : List ℕ) (pairs : List (List ℕ)) where
    pub from-hit : from_of pair ≡ chosen →
        marked (take word_bits accepted) (to_of pair) (word_from accepted pairs chosen) ≡ word_from accepted (pair ∷ pairs) chosen
    from-hit f = rw (word-of-all accepted kept) (from-pair accepted (table-entries accepted kept) chosen pair pairs f)

    pub from-miss : (from_of pair ≡ chosen → ⊥) → word_from accepted pairs chosen ≡ word_from accepted (pair ∷ pairs) chosen
    from-miss f = from-other accepted (table-entries accepted kept) chosen pair pairs f

-- Version Information is given
module _ (accepted : List ℕ) (pairs : List (List ℕ)) (barred : List ℕ) (version : ℕ) (information : List ℕ) where
  abbrev given : Reply Act
  given = with_information accepted pairs barred version Given information

  -- 51, then the choice, for what was read
  abbrev after-36 : ℕ → List ℕ → Reply Act
  after-36 chosen available =
      judged Reading ((51 when not (eqb chosen version)) ∷ []) (answered (first_accepted accepted pairs barred chosen available))

  -- the reader's rules come first
  apart : given ≡ judged Reading (read_rules Client information) (after-36 (chosen_of information) (available_of information))
  apart =
      lowest-append (refuse Reading) (answered (first_accepted accepted pairs barred (chosen_of information) (available_of information)))
      (read_rules Client information) ((51 when not (eqb (chosen_of information) version)) ∷ [])

  pub given-refused : (n : ℕ) → refuse Reading n ≡ read_information Client information → refuse Reading n ≡ given
  given-refused n e =
      read-refused Client information (refuse Reading) (after-36 (chosen_of information) (available_of information)) n e ∙ sym apart

  -- what was read: none of 31 to 36 applies
  module _ (c : ℕ) (s : Span) (r : Known Client information c s) where
    given-read : given ≡ after-36 c (versions_in information s)
    given-read =
        rw (r.chosen_is, known-available Client information c s r)
        (apart ∙ known-clear Client information (refuse Reading) (after-36 (chosen_of information) (available_of information)) c s r)

    pub given-other : (c ≡ version → ⊥) → refuse Reading 51 ≡ given
    given-other h = rw (given-read, ne_eqb c version h)

    pub given-same : c ≡ version → answered (first_accepted accepted pairs barred c (versions_in information s)) ≡ given
    given-same h = rw (given-read, eq-eqb c version h)

-- The laws of the walks
pub ruleset walk_rules = (accepted-here, accepted-next, accepted-end, use-told, word-rest)

pub ruleset given_rules = (given-refused, given-other, given-same, read_known)
