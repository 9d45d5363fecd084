use Rattle.rtps_announcer.proofs.Few.{few_peers}
use Rattle.rtps_announcer.proofs.laws.few_peers.Goals as goal

pub returns : goal.returns
returns c = few_peers
