use Rattle.rtps_discovery.proofs.Faultless.{taken_is_faultless}
use Rattle.rtps_discovery.proofs.laws.taken_is_faultless.Goals as goal

pub returns : goal.returns
returns c = taken_is_faultless
