use Rattle.rtps_discovery.proofs.Ranked.{ranks_are_matched}
use Rattle.rtps_discovery.proofs.laws.ranks_are_matched.Goals as goal

pub returns : goal.returns
returns c = ranks_are_matched
