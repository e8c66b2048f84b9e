-- The numbers of the configuration test's rules rise.
use mathlib.Core.Bool.{true}
use mathlib.Core.Path.{◌≡◌, refl}
use Rattle.refusals.specs.Rule.{rising}
use Rattle.both_ends.specs.Configuration.{Configuration, configuration_rules}

pub configuration-rises : (c : Configuration) → rising (configuration_rules c) ≡ true
configuration-rises c = refl
