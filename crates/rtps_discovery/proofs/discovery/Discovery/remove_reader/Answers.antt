use Rattle.std.proofs.Common.{sym, subst}
use Rattle.rtps_discovery.specs.Kept.{DiscoveryView, IsKnown}
use Rattle.rtps_discovery.proofs.discovery.Discovery.remove_reader.Goals as goal

pub returns-clause-known : goal.returns-clause-known
returns-clause-known g c = λ k is. c.in_ok-ended.ensures.known k (subst (λ (d : DiscoveryView). IsKnown k d.kept) (sym c.self.view_is) is)

pub returns-clause-changes : goal.returns-clause-changes
returns-clause-changes g c = λ k is. c.in_ok-ended.ensures.told k (subst (λ (d : DiscoveryView). IsKnown k d.kept) (sym c.self.view_is) is)
