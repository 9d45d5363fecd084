use Rattle.rtps_discovery.proofs.Ends.{ended, stays_ended}
use Rattle.rtps_discovery.proofs.leases.Leases.end.Goals as goal

pub returns-in-Some : goal.returns-in-Some
returns-in-Some g c = λ at. ended c.args.prefix c.in-Some.last c.args.self.now c.forget.new.self c.forget.ensures (rw c.in-Some.is at at)

pub returns-in-None : goal.returns-in-None
returns-in-None g c = λ at. stays_ended c.args.prefix c.args.self.now (rw c.in-None.is at at)
