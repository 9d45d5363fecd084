use Rattle.std.proofs.Common.{subst, sym}
use Rattle.rtps_discovery.specs.Kept.{DiscoveryView, IsKnown}
use Rattle.rtps_discovery.specs.Known.{moved}
use Rattle.rtps_discovery.proofs.discovery.Discovery.step.Goals as goal

pub returns-clause-known : goal.returns-clause-known
returns-clause-known g c = λ k is.
    c.in_ok-effects.ensures.known (moved c.args.moment k) (c.advance.ensures k (subst (λ (d : DiscoveryView). IsKnown k d.kept) (sym c.self.view_is) is))

pub returns-clause-effects : goal.returns-clause-effects
returns-clause-effects g c = λ k is.
    c.in_ok-effects.ensures.effects (moved c.args.moment k) (c.advance.ensures k (subst (λ (d : DiscoveryView). IsKnown k d.kept) (sym c.self.view_is) is))

pub returns-clause-ignored : goal.returns-clause-ignored
returns-clause-ignored g c = λ k is.
    c.in_ok-effects.ensures.ignored (moved c.args.moment k) (c.advance.ensures k (subst (λ (d : DiscoveryView). IsKnown k d.kept) (sym c.self.view_is) is))
