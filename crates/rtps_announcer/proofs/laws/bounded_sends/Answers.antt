use Rattle.rtps_announcer.proofs.Bounds.{bounded_sends}
use Rattle.rtps_announcer.proofs.laws.bounded_sends.Goals as goal

pub returns : goal.returns
returns c = bounded_sends
