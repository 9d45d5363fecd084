use Rattle.rtps_discovery.proofs.Tested.{addressed_is_tested}
use Rattle.rtps_discovery.proofs.laws.addressed_is_tested.Goals as goal

pub returns : goal.returns
returns c = addressed_is_tested
