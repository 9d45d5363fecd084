use Rattle.std.proofs.Common.{sym}
use Rattle.rtps_proxy.proofs.Apart.{apart_from}
use Rattle.rtps_proxy.proofs.Standing.{lacks_is}
use Rattle.rtps_proxy.proofs.settled.Settled.lacks.Goals as goal

pub returns : goal.returns
returns g c =
    let s = c.args.self.now in
    sym (lacks_is s.frontier s.runs (apart_from s.frontier s.runs s.apart) c.args.number)
