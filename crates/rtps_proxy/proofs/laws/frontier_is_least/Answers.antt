use Rattle.rtps_proxy.proofs.Frontier.{frontier_least}
use Rattle.rtps_proxy.proofs.laws.frontier_is_least.Goals as goal

pub returns : goal.returns
returns c = record { below = λ past n l. (frontier_least past).0 n l; itself = λ past. (frontier_least past).1 }
