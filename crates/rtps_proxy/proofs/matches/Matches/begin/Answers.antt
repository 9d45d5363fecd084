use Rattle.std.proofs.Common.{[], sym, subst, refl}
use Rattle.rtps_proxy.specs.Kept.{pairing}
use Rattle.rtps_proxy.specs.Matches.{AllStand, Match, begun}
use Rattle.rtps_proxy.proofs.Matching.{begun_stands}
use Rattle.rtps_proxy.proofs.matches.Matches.begin.Goals as goal

pub returns-in-Ok-clause-stands : goal.returns-in-Ok-clause-stands
returns-in-Ok-clause-stands g c ms all =
    let kept : AllStand ms c.self.inside.proxies.entries = subst (AllStand ms) (sym c.self.view_is) all in
    let m : Match = record { pairing = pairing c.args.config; past = [] } in
    subst (AllStand (begun m ms)) (sym c.in-Ok.ensures.entries)
    (begun_stands m c.args.config.writer c.in_ok-proxy.proxy ms c.self.inside.proxies.entries (record { writer = refl; pairing = sym c.in_ok-proxy.ensures.pairing; stands = c.in_ok-proxy.ensures.stands }) kept)
