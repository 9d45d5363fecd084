use Rattle.rtps_announcement.specs.Participant.{participant_gone_octets}
use Rattle.rtps_announcement.proofs.participant.write_participant_gone.Goals as goal

pub returns : goal.returns
unfolding participant_gone_octets
returns g c = rw (c.change_of.ensures) at c.write_end.ensures
