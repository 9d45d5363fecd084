use Rattle.dds_participant.proofs.HandingOff.{adds, begins, gives, moves}
use Rattle.dds_participant.proofs.laws.handed_off.Goals as goal

pub returns-clause-attached : goal.returns-clause-attached
returns-clause-attached g c view rank w outlet = begins view rank w outlet

pub returns-clause-given : goal.returns-clause-given
returns-clause-given g c view rank start before after earlier whole given old new port = gives view rank start before after earlier whole given old new port

pub returns-clause-added : goal.returns-clause-added
returns-clause-added g c view rank start before after earlier whole outcome old new port = adds view rank start before after earlier whole outcome old new port

pub returns-clause-delivered : goal.returns-clause-delivered
returns-clause-delivered g c view rank start now earlier before after = moves view rank start now earlier before after
