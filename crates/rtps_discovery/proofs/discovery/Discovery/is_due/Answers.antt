use Rattle.std.proofs.Common.{◌≡◌, ap, subst, sym, ◌∙◌}
use Rattle.rtps_discovery.specs.Kept.{DiscoveryView, RegistryView, IsKnown, kept}
use Rattle.rtps_discovery.specs.Known.{moved}
use Rattle.rtps_discovery.proofs.Expiring.{due_is_expired, moves}
use Rattle.rtps_discovery.proofs.discovery.Discovery.is_due.Goals as goal

pub returns : goal.returns
returns g c = λ k is.
    let d : RegistryView = kept c.self.inside.held in
    let same : kept c.self.inside.held ≡ c.args.self.now.kept = ap (λ (v : DiscoveryView). v.kept) c.self.view_is in
    let known : IsKnown k (kept c.self.inside.held) = subst (λ (v : RegistryView). IsKnown k v) (sym same) is in
    c.is_due.ensures ∙ due_is_expired (moved c.args.moment k) (record d { moment = c.max.result }) (moves k d c.args.moment c.max.result known c.max.ensures)
