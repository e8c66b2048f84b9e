-- A writer's answer as numbers: its refusal and its count are those of what it had to write.
use Prim.Native.Nat.{ℕ}
use mathlib.Core.List.{List}
use mathlib.Core.Path.{◌≡◌, refl, ap, ◌∙◌}
use lib.ListN.{length}
use Rattle.refusals.specs.Reply.{Reply, Reply.refused, Reply.answered}
use Rattle.refusals.specs.Written.{counted}
use Rattle.c_interface.specs.Numbers.{returned, leaving, itself}

returned-counted : (owed : Reply (List ℕ)) → returned (counted owed) ≡ returned owed
returned-counted (refused n c) = refl
returned-counted (answered bytes) = refl

count_left : (owed : Reply (List ℕ)) (found : ℕ) → leaving itself (counted owed) found ≡ leaving length owed found
count_left (refused n c) found = refl
count_left (answered bytes) found = refl

pub written-returned :
    (owed : Reply (List ℕ)) {reply : Reply ℕ} → reply ≡ counted owed → returned reply ≡ returned owed
written-returned owed e = ap returned e ∙ returned-counted owed

pub written_count :
    (owed : Reply (List ℕ)) (found : ℕ) {reply : Reply ℕ} →
    reply ≡ counted owed →
    leaving itself reply found ≡ leaving length owed found
written_count owed found e = ap (λ (r : Reply ℕ). leaving itself r found) e ∙ count_left owed found
