use Rattle.rtps_announcer.proofs.Opened.{read_alike}
use Rattle.rtps_announcer.proofs.laws.read_alike.Goals as goal

pub returns : goal.returns
returns c = read_alike
