use Rattle.rtps_discovery.proofs.Silent.{silence_is_forgotten}
use Rattle.rtps_discovery.proofs.laws.silence_is_forgotten.Goals as goal

pub returns : goal.returns
returns c = silence_is_forgotten
