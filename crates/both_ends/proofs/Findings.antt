-- The configuration test and the safe rule: the test answers "safe" exactly where the configuration is safe.
use Prim.Native.Nat.{ℕ}
use mathlib.Core.Bool.{Bool, true, false, ◌&&◌}
use mathlib.Core.List.{List, [], ◌∷◌}
use Rattle.std.specs.Prelude.{Option, None, Some, Result, Ok, Err}
use mathlib.Core.Path.{◌≡◌, refl, ap, ◌∙◌}
use native.Mathlib.Omega.{arith}
use Rattle.std.proofs.Common.{tests}
use Rattle.refusals.specs.Reply.{Reply, Reply.refused, Reply.answered}
use Rattle.refusals.specs.Rule.{Rule, Rule.◌when◌, judged, clear}
use Rattle.refusals.specs.declared.Call.TheVariants.{Writing}
use Rattle.refusals.specs.declared.Refusal.{Refusal}
use Rattle.both_ends.specs.Configuration.{Configuration, configuration_of, configuration_rules, keeps_safe_rule, is_safe}
use Rattle.both_ends.specs.Configuration.{Part}
use Rattle.both_ends.specs.Configuration.{Verdict, broken_by, verdict_on, judged_configuration}
use Rattle.both_ends.specs.Configuration.{verdict_in, finding_reply, found_safe, says_safe}
use Rattle.both_ends.specs.declared.Finding.{Finding}
use Rattle.both_ends.proofs.Outside.{is_none, within-outside}

-- An answer that says "safe"
abbrev reply_safe : Reply Verdict → Bool
reply_safe (refused n c) = false
reply_safe (answered verdict) = found_safe verdict

part-safe : (part : Part) (o : Option ℕ) (later : Verdict) → found_safe (broken_by part o later) ≡ (is_none o && found_safe later)
part-safe part None later = refl
part-safe part (Some v) later = refl

-- No part is found broken exactly where the safe rule is kept
verdict-safe : (c : Configuration) → found_safe (verdict_on c) ≡ keeps_safe_rule c
unfolding keeps_safe_rule
verdict-safe c = grind (arith, tests, part-safe, within-outside)

judged-safe : (rules : List Rule) (verdict : Verdict) → reply_safe (judged Writing rules (answered verdict)) ≡ (clear rules && found_safe verdict)
judged-safe [] verdict = refl
judged-safe ((n when true) ∷ rules) verdict = refl
judged-safe ((n when false) ∷ rules) verdict = judged-safe rules verdict

says-reply : (r : Result Finding Refusal) → says_safe r ≡ reply_safe (finding_reply r)
says-reply (Ok f) = refl
says-reply (Err r) = refl

-- Lists of which no part is found broken keep the safe rule
pub safe_found : (f : Finding) (readable accepted offered available : List ℕ) (pairs : List (List ℕ)) →
    verdict_in f ≡ verdict_on (configuration_of readable accepted offered available []) →
    says_safe (Ok f) ≡ keeps_safe_rule (configuration_of readable accepted offered available pairs)
unfolding keeps_safe_rule
safe_found f readable accepted offered available pairs found =
    ap found_safe found ∙ verdict-safe (configuration_of readable accepted offered available pairs)

-- So the test says "safe" exactly where the configuration is safe
pub says-safe : (r : Result Finding Refusal) (c : Configuration) → finding_reply r ≡ judged_configuration c → says_safe r ≡ is_safe c
unfolding judged_configuration is_safe
says-safe r c answer =
    says-reply r ∙ ap reply_safe answer ∙ judged-safe (configuration_rules c) (verdict_on c) ∙
    ap (λ (b : Bool). clear (configuration_rules c) && b) (verdict-safe c)
