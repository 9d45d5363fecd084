use Rattle.std.proofs.Common.{◌≡◌, ap, subst}
use Rattle.rtps_discovery.specs.Kept.{DiscoveryView, RegistryView, kept}
use Rattle.rtps_discovery.specs.Pairs.{AreKeptPairs}
use Rattle.rtps_discovery.proofs.Listing.{are_kept, are_known}
use Rattle.rtps_discovery.proofs.discovery.Discovery.matches.Goals as goal

pub returns-clause-kept : goal.returns-clause-kept
returns-clause-kept g c =
    let same : kept c.self.inside.held ≡ c.args.self.now.kept = ap (λ (d : DiscoveryView). d.kept) c.self.view_is in
    subst (λ (d : RegistryView). AreKeptPairs d c.in_ok-pairs.pairs.keys) same
    (are_kept (kept c.self.inside.held) c.in_ok-pairs.pairs.keys c.in_ok-pairs.ensures.pairs c.in_ok-pairs.ensures.ordered)

pub returns-clause-matches : goal.returns-clause-matches
returns-clause-matches g c = λ k is. are_known k c.args.self.now.kept c.in_ok-pairs.pairs.keys is (returns-clause-kept g c)
