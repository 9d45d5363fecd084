use Rattle.std.proofs.Common.{◌∙◌}
use Rattle.rtps_proxy.proofs.Apart.{apart_from}
use Rattle.rtps_proxy.proofs.Naming.{final_is, octets_are, sent_is}
use Rattle.rtps_proxy.specs.Answer.{Acknack}
use Rattle.rtps_proxy.specs.Kept.{next_acknack, reliable_view, pairing}
use Rattle.rtps_proxy.proofs.reliable.Reliable.reply_to.Goals as goal

pub returns : goal.returns
returns g c =
    let s = c.args.self.now.settled in
    let a : Acknack = next_acknack (reliable_view c.args.self.now) in
    let final = final_is s.frontier s.runs (apart_from s.frontier s.runs s.apart) c.args.self.now.announced in
    sent_is (pairing c.args.config.now) a c.in_ok-to.to c.in_ok-octets.octets (c.in_ok-to.ensures.copy ∙ c.as_slice.ensures) (c.in_ok-octets.ensures.octets ∙ octets_are (pairing c.args.config.now) a c.missing_up_to.result c.missing_up_to.ensures final)
