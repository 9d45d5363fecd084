use Rattle.std.proofs.Common.{arith}
use Rattle.rtps_announcement.proofs.Participants.{participant_built}
use Rattle.rtps_announcement.proofs.participant.write_participant.Goals as goal

pub returns : goal.returns
returns g c =
    rw (c.new.ensures, c.in_ok-push_presence.ensures, c.in_ok-octets.ensures, c.change_of.ensures)
    (participant_built c.args.own c.args.to c.args.here (omega arith) (omega arith) (omega arith))
