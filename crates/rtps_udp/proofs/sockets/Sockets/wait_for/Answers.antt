use Rattle.std.proofs.Common.{ap}
use Rattle.std.specs.Time.{instant_nanos}
use Rattle.rtps_udp.proofs.Receiving.{holds_failed}
use Rattle.rtps_udp.proofs.sockets.Sockets.wait_for.Goals as goal

pub returns-in-Err-clause-failed : goal.returns-in-Err-clause-failed
returns-in-Err-clause-failed g c =
    holds_failed _ _ _ _ _ _ (ap instant_nanos c.in-Err.ensures.start) c.in-Err.ensures.fault
