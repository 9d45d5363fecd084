use Rattle.rtps_discovery.proofs.Differences.{differences}
use Rattle.rtps_discovery.proofs.laws.changes_are_differences.Goals as goal

pub returns : goal.returns
returns c = differences
