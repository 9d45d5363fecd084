use Rattle.std.specs.Prelude.{◌∷◌}
use Rattle.std.proofs.Common.{◌≡◌, ◌++◌}
use Rattle.rtps_discovery.proofs.known.gathered.Given as goal

abbrev pub invariant-loop-locator : goal.invariant-loop-locator
invariant-loop-locator g l = l.locators.items ++ l.locator-iterator ≡ l.fn.first ∷ l.fn.second ∷ l.fn.listed
