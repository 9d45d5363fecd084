use Rattle.rtps_announcer.proofs.Cuts.{every_cut}
use Rattle.rtps_announcer.proofs.laws.every_cut.Goals as goal

pub returns : goal.returns
returns c = every_cut
