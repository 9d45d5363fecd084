use Rattle.rtps_announcer.proofs.Concerned.{reminded_all}
use Rattle.rtps_announcer.proofs.laws.reminded.Goals as goal

pub returns : goal.returns
returns c = reminded_all
