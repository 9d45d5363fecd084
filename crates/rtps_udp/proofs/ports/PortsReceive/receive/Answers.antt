use Rattle.std.proofs.Common.{ap, refl}
use Rattle.std.specs.Time.{instant_nanos}
use Rattle.rtps_udp.proofs.Calls.{seen_fault, seen_none, seen_some}
use Rattle.rtps_udp.proofs.ports.PortsReceive.receive.Goals as goal

pub returns : goal.returns
returns g c =
    let same = ap instant_nanos c.receive_next.ensures.start in
    let first = c.receive_next.ensures.receives in
    record {
      fits = c.receive_next.ensures.fits;
      some = seen_some _ _ same _ _ _ _ first;
      none = seen_none _ _ same _ _ _ _ first;
      fault = seen_fault _ _ same _ _ _ _ first;
      speech = refl;
    }
