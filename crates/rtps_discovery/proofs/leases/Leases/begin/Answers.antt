use Rattle.rtps_discovery.proofs.Ends.{begun, stays_ended}
use Rattle.rtps_discovery.proofs.leases.Leases.begin.Goals as goal

pub returns-in_ok-add-in-Some : goal.returns-in_ok-add-in-Some
returns-in_ok-add-in-Some g c = λ at. rw c.in-Some.is (begun c.args.prefix c.in-Some.last c.args.self.now c.add.new.self c.in_ok-add-in-Some.ensures at)

pub returns-in-None : goal.returns-in-None
returns-in-None g c = λ at. rw c.in-None.is (stays_ended c.args.prefix c.args.self.now at)
