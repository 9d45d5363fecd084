use Rattle.rtps_announcer.proofs.Concerned.{only_concerned}
use Rattle.rtps_announcer.proofs.laws.only_concerned.Goals as goal

pub returns : goal.returns
returns c = only_concerned
