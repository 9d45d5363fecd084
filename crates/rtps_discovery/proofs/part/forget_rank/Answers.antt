use Rattle.std.proofs.Common.{rules}
use Rattle.rtps_discovery.proofs.Forgotten.{forgotten}
use Rattle.rtps_discovery.proofs.part.forget_rank.Goals as goal

pub returns : goal.returns
returns g c = λ q. forgotten _ c.args.rank _ (λ k v b w f' t. search rules) c.args.index.now.entries c.retain.new.self.entries c.retain.ensures.was_ordered c.retain.ensures.filtered q
