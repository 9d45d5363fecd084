use Rattle.std.proofs.Common.{rules}
use Rattle.std.proofs.lemmas.Map.Made.{filter_same_pairs}
use Rattle.rtps_announcer.specs.Announcing.{stays}
use Rattle.rtps_announcer.proofs.peers.end_leases.Goals as goal

pub returns : goal.returns
returns g c = filter_same_pairs _ (stays c.args.moment) _ (λ k v b w f' t. search rules) c.args.peers.now.entries c.retain.new.self.entries c.retain.ensures.filtered
