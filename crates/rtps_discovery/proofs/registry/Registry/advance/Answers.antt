use Rattle.rtps_discovery.specs.Kept.{kept}
use Rattle.rtps_discovery.proofs.Expiring.{moves}
use Rattle.rtps_discovery.proofs.registry.Registry.advance.Goals as goal

pub returns : goal.returns
returns g c = λ k is. moves k (kept c.args.self.now) c.args.moment c.max-self.result is c.max-self.ensures
