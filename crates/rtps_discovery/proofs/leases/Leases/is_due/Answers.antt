use Rattle.std.proofs.Common.{ap, ◌∙◌, nat_lt}
use Rattle.rtps_discovery.specs.Ends.{is_due}
use Rattle.rtps_discovery.proofs.Ends.{first_tells}
use Rattle.rtps_discovery.proofs.leases.Leases.is_due.Goals as goal

pub returns : goal.returns
returns g c =
    ap (λ s. nat_lt s c.args.moment) c.self.inside.first
    ∙ first_tells c.self.inside.ends.keys c.args.moment c.ranges.moment.fits c.self.inside.sorted
    ∙ ap (λ es. is_due es c.args.moment) c.self.view_is
