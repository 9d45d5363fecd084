use Rattle.rtps_announcement.proofs.Heartbeats.{heartbeat_built}
use Rattle.rtps_announcement.proofs.heartbeat.write_heartbeat.Goals as goal

pub returns : goal.returns
returns g c =
    rw (c.new.ensures, c.in_ok-push_u32.ensures, c.in_ok-push_sn-2.ensures, c.in_ok-push_sn.ensures, c.in_ok-extend_from_slice-2.ensures.items, c.in_ok-extend_from_slice.ensures.items, c.in_ok-octets.ensures)
    (heartbeat_built c.args.own c.args.to c.args.last c.args.count)
