use Rattle.rtps_discovery.proofs.Silent.{moments_between_add_nothing}
use Rattle.rtps_discovery.proofs.laws.moments_between_add_nothing.Goals as goal

pub returns : goal.returns
returns c = moments_between_add_nothing
