use Rattle.std.proofs.Common.{◌≡◌, ◌∷◌, [], ap, refl}
use Rattle.std.specs.Net.Addr.{ipv4_octets}
use Rattle.std.specs.Time.{instant_nanos}
use Rattle.rtps_records.specs.Traffic.{Sent}
use Rattle.rtps_udp.proofs.Announced.{quiet_answer}
use Rattle.rtps_udp.proofs.Calls.{seen_answer}
use Rattle.rtps_announced.proofs.Sent.{none_more}
use Rattle.rtps_announced.proofs.Silent.{silent_at}
use Rattle.rtps_announced.proofs.Spoken.{same_voice, spoken_at, unheard}
use Rattle.rtps_announced.proofs.sockets.AnnouncedSocketsExchange.send.Goals as goal

pub invariant_of-self : goal.invariant_of-self
invariant_of-self g c =
    let v = c.self.inside.voice in
    let m = c.self.inside.moment in
    let sent = c.send_answer-sent.ensures in
    let bound = ipv4_octets c.self.inside.sockets.binding.address in
    let s = instant_nanos c.self.inside.sockets.ports.start in
    let t = instant_nanos c.send_answer-sent.new.self.ports.start in
    let a = g.L.Link.calls c.self.inside.sockets.ports.link in
    let e = g.L.Link.calls c.send_answer-sent.new.self.ports.link in
    let start : t ≡ s = ap instant_nanos sent.start in
    let here = ap (λ b. ipv4_octets b.address) sent.same in
    let more = Sent c.args.to c.args.octets.now ∷ [] in
    let quiet = quiet_answer a e c.self.inside.sockets.binding.address c.args.to c.args.octets.now
    c.send_answer-sent.result _ sent.refused sent.sent in
    let grows = seen_answer s t a e c.self.inside.sockets.binding.address c.args.to c.args.octets.now
    c.send_answer-sent.result _ start sent.refused sent.sent in (
      λ present. spoken_at v v bound _ here m m s t t start refl a e e more [] []
          (c.self.invariant.0 present) quiet grows (none_more t e) (same_voice v) refl refl
          (unheard v bound),
      λ gone. silent_at v bound _ here s t start a e more (c.self.invariant.1 gone) quiet grows,
    )

pub returns-clause-sent : goal.returns-clause-sent
returns-clause-sent g c =
    let sent = c.send_answer-sent.ensures in
    rw (← c.self.view_is)
    (seen_answer _ _ _ _ c.self.inside.sockets.binding.address c.args.to c.args.octets.now
    c.send_answer-sent.result _ (ap instant_nanos sent.start) sent.refused sent.sent)
