use Rattle.rtps_announcer.proofs.AllTold.{all_told_since}
use Rattle.rtps_announcer.proofs.laws.all_told.Goals as goal

pub returns : goal.returns
returns c = all_told_since
