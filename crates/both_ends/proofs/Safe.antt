-- What a safe configuration gives: each list keeps its rule, and the safe rule as facts about a version.
use Prim.Native.Nat.{ℕ, ◌≤◌}
use mathlib.Core.Bool.{true}
use mathlib.Core.Path.{◌≡◌, sym}
use native.Mathlib.Omega.{arith}
use Rattle.std.proofs.Common.{tests}
use lib.ListN.{length}
use Rattle.versions.specs.Pairs.{pairs_keep_rule}
use Rattle.versions.specs.Table.{elem, table_keeps_rule}
use Rattle.information.specs.Limits.{max_available}
use Rattle.both_ends.specs.Configuration.{Configuration, within, same_versions, keeps_safe_rule, is_safe}
use Rattle.both_ends.proofs.Outside.{within-elem, same-elem}

pub record Safe (c : Configuration) : Type 0 where
  pub offered-kept : table_keeps_rule c.offered ≡ true
  pub available-few : length c.available ≤ max_available
  pub readable-kept : table_keeps_rule c.readable ≡ true
  pub accepted-kept : table_keeps_rule c.accepted ≡ true
  pub pairs-kept : pairs_keep_rule c.pairs ≡ true
  pub accepted-offered : (v : ℕ) → elem v c.accepted ≡ elem v c.offered
  pub available-offered : (v : ℕ) → elem v c.available ≡ elem v c.offered
  pub offered-readable : (v : ℕ) → elem v c.offered ≡ true → elem v c.readable ≡ true

pub safe-facts : (c : Configuration) → is_safe c ≡ true → Safe c
unfolding is_safe keeps_safe_rule
safe-facts c h =
    let rule : (same_versions c.accepted c.offered ≡ true) × (same_versions c.offered c.available ≡ true) × (within c.offered c.readable ≡ true) =
    (grind (arith, tests), grind (arith, tests), grind (arith, tests)) in
    record {
      offered-kept = grind (arith, tests);
      available-few = grind (arith, tests);
      readable-kept = grind (arith, tests);
      accepted-kept = grind (arith, tests);
      pairs-kept = grind (arith, tests);
      accepted-offered = λ v. same-elem c.accepted c.offered v rule.0;
      available-offered = λ v. sym (same-elem c.offered c.available v rule.1);
      offered-readable = λ v. within-elem c.offered c.readable v rule.2;
    }
