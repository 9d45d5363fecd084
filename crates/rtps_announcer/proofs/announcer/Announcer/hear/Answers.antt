use Rattle.std.proofs.Common.{sym, subst}
use Rattle.rtps_announcer.specs.Standing.{StandsAt}
use Rattle.rtps_announcer.proofs.Running.{stood}
use Rattle.rtps_announcer.proofs.announcer.Announcer.hear.Goals as goal

pub returns-clause-stands : goal.returns-clause-stands
returns-clause-stands g c = λ earlier at.
    stood (record { own = c.self.inside.own; rules = c.self.inside.rules; failed = c.self.inside.failed; state = c.self.inside.state })
    c.args.hearing.now earlier c.step.new.self
    (subst (StandsAt earlier) (sym c.self.view_is) at)
    c.in_ok-more.ensures.after
