use Rattle.std.proofs.Common.{◌+◌, arith, take}
use Rattle.rtps_proxy.specs.Runs.{AreApart}
use Rattle.rtps_proxy.proofs.Apart.{apart_from, end_more}
use Rattle.rtps_proxy.proofs.settled.Settled.place_of.Goals as goal

pub first_reaching-at-requires : goal.first_reaching-at-requires
first_reaching-at-requires g c =
    let apart : AreApart c.args.self.now.frontier c.args.self.now.runs = apart_from c.args.self.now.frontier c.args.self.now.runs c.args.self.now.apart in
    (c.args.self.now.frontier, rw c.as_slice-runs.ensures apart)

pub next_reaching-requires-clause-apart : goal.next_reaching-requires-clause-apart
next_reaching-requires-clause-apart g c =
    let apart : AreApart c.args.self.now.frontier c.args.self.now.runs = apart_from c.args.self.now.frontier c.args.self.now.runs c.args.self.now.apart in
    (c.args.self.now.frontier, rw c.as_slice-runs.ensures apart)

pub next_reaching-requires-clause-before : goal.next_reaching-requires-clause-before
next_reaching-requires-clause-before g c =
    end_more c.args.number (c.args.number + 1) (take c.first_reaching-at.result c.as_slice-runs.result.now) (omega arith) c.first_reaching-at.ensures.before

pub is_begun-requires-clause-apart : goal.is_begun-requires-clause-apart
is_begun-requires-clause-apart g c =
    let apart : AreApart c.args.self.now.frontier c.args.self.now.runs = apart_from c.args.self.now.frontier c.args.self.now.runs c.args.self.now.apart in
    (c.args.self.now.frontier, rw c.as_slice-runs.ensures apart)
