use Rattle.std.proofs.Common.{◌≡◌, None, rules, subst}
use Rattle.rtps_discovery.specs.Ends.{Renews}
use Rattle.rtps_discovery.proofs.Ends.{ends_then, renewed, stays}
use Rattle.rtps_discovery.proofs.leases.Leases.renew.Goals as goal

pub returns : goal.returns
returns g c = λ at.
    let gone : Renews c.args.prefix None c.args.self.now c.end.new.self = c.end.ensures at in
    renewed c.args.prefix c.args.last c.args.self.now c.end.new.self c.begin.new.self gone (c.in_ok-begin.ensures (ends_then c.args.prefix None c.args.self.now c.end.new.self gone))

pub returns-then-eq : goal.returns-then-eq
returns-then-eq g c = λ at.
    let same : c.args.earlier ≡ c.args.last = search rules in
    subst (λ o. Renews c.args.prefix o c.args.self.now c.args.self.now) same (stays c.args.prefix c.args.earlier c.args.self.now at)
