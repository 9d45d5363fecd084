use Rattle.rtps_wire.proofs.CutMessages.{cuts_are}
use Rattle.rtps_wire.proofs.laws.cuts_read_first.Goals as goal

pub returns : goal.returns
returns c = cuts_are
