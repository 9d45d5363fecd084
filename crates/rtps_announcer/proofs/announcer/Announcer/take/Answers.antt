use Rattle.std.proofs.Common.{sym, subst, rules}
use Rattle.rtps_announcer.specs.Hearing.{hearings_of}
use Rattle.rtps_announcer.specs.Standing.{StandsAt}
use Rattle.rtps_announcer.proofs.Running.{stood_all}
use Rattle.rtps_announcer.proofs.announcer.Announcer.take.Goals as goal

pub returns-clause-stands : goal.returns-clause-stands
returns-clause-stands g c = λ earlier at.
    rw (← c.self.view_is) (stood_all (record { own = c.self.inside.own; rules = c.self.inside.rules; failed = c.self.inside.failed; state = c.self.inside.state })
    (hearings_of c.self.inside.own c.args.datagram.now.moment c.args.datagram.now.bytes.now) earlier c.take.new.self
    (subst (StandsAt earlier) (sym c.self.view_is) at)
    (search rules))
