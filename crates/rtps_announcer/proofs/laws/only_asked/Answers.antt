use Rattle.rtps_announcer.proofs.Concerned.{only_asked}
use Rattle.rtps_announcer.proofs.laws.only_asked.Goals as goal

pub returns : goal.returns
returns c = only_asked
