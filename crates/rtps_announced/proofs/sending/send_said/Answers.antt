use Rattle.std.specs.Time.{instant_nanos}
use Rattle.rtps_announced.proofs.Sent.{none_more}
use Rattle.rtps_announced.proofs.sending.send_said.Goals as goal

pub returns-in-Err-clause-announced : goal.returns-in-Err-clause-announced
returns-in-Err-clause-announced g c =
    rw c.in-Err.is (none_more (instant_nanos c.args.sockets.now.ports.start)
    (g.L.Link.calls c.args.sockets.now.ports.link))
