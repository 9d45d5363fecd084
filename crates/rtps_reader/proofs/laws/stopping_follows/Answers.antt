use Rattle.rtps_reader.proofs.Stopping.{stands_stopped}
use Rattle.rtps_reader.proofs.laws.stopping_follows.Goals as goal

pub returns : goal.returns
returns g c = stands_stopped
