use Rattle.rtps_proxy.specs.Runs.{AreApart}
use Rattle.rtps_proxy.proofs.Apart.{apart_from}
use Rattle.rtps_proxy.proofs.settled.Settled.add.Goals as goal

pub first_reaching-at-requires : goal.first_reaching-at-requires
first_reaching-at-requires g c =
    let apart : AreApart c.args.self.now.frontier c.args.self.now.runs = apart_from c.args.self.now.frontier c.args.self.now.runs c.args.self.now.apart in
    (c.args.self.now.frontier, rw c.as_slice.ensures apart)
