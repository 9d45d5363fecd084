use Rattle.std.proofs.Common.{◌≡◌, ℕ, ◌∙◌, List, ap, refl, subst}
use Rattle.std.specs.Net.Addr.{ipv4_octets}
use Rattle.std.specs.Time.{instant_nanos}
use Rattle.rtps_types.specs.declared.locator.Locator.{Locator}
use Rattle.rtps_udp.specs.Addresses.{is_answered}
use Rattle.rtps_announced.specs.Announced.{AnnouncesMore}
use Rattle.rtps_announced.proofs.Sent.{more_then, none_more, place_more, some_more}
use Rattle.rtps_announced.proofs.sending.send_to_peer.Goals as goal

pub loop-place-preserved : goal.loop-place-preserved
loop-place-preserved g c =
    let inv = c.loop-place.invariant in
    let sent = c.announce_to_peer-lost.ensures in
    let s = instant_nanos c.args.sockets.now.ports.start in
    let t = instant_nanos c.loop-place.sockets.ports.start in
    let a = g.L.Link.calls c.args.sockets.now.ports.link in
    let b = g.L.Link.calls c.loop-place.sockets.ports.link in
    let e = g.L.Link.calls c.announce_to_peer-lost.new.self.ports.link in
    let first = ipv4_octets c.args.sockets.now.binding.address in
    let here = ipv4_octets c.loop-place.sockets.binding.address in
    let bound : here ≡ first = ap (λ b. ipv4_octets b.address) inv.same.binding in
    record {
      announced = subst (λ (l : List (Locator × List ℕ)). AnnouncesMore s a e l)
          (some_more (is_answered first) c.args.to.now c.loop-place.place-index _ c.args.octets.now
          c.loop-place-test.true)
          (more_then s t (ap instant_nanos inv.same.start) a b e _ _ inv.announced
          (place_more t here first bound b e _ c.args.octets.now _
          (λ no. ap (λ s. g.L.Link.calls s.ports.link) (sent.refused no).1) sent.sent));
      same = record {
        start = sent.start ∙ inv.same.start;
        binding = sent.same ∙ inv.same.binding;
      };
    }

pub loop-place-init : goal.loop-place-init
loop-place-init g c = record {
  announced = none_more (instant_nanos c.args.sockets.now.ports.start)
      (g.L.Link.calls c.args.sockets.now.ports.link);
  same = record { start = refl; binding = refl };
}
