use Rattle.rtps_udp.specs.Addresses.{is_answered}
use Rattle.std.proofs.Common.{◌≡◌, filter, ℕ, List, ap, refl, subst, sym}
use Rattle.std.specs.Net.Addr.{ipv4_octets}
use Rattle.std.specs.Time.{instant_nanos}
use Rattle.rtps_types.specs.declared.locator.Locator.{Locator}
use Rattle.rtps_announcer.specs.declared.said.Destination.{Destination}
use Rattle.rtps_announced.specs.Announced.{AnnouncesMore, IsSameSockets, addressed, places_of, to_each}
use Rattle.rtps_announced.proofs.Sent.{all_more, more_then, none_more, same_then}
use Rattle.rtps_announced.proofs.sending.send_all.Goals.{in-Everyone, in-Peer}
use Rattle.rtps_announced.proofs.sending.send_all.Goals as goal

pub loop-announcement-preserved : goal.loop-announcement-preserved
loop-announcement-preserved g c =
    let inv = c.loop-announcement.invariant in
    let i = c.loop-announcement.announcement-index in
    let everyone = c.args.everyone.now in
    let s = instant_nanos c.args.sockets.now.ports.start in
    let t = instant_nanos c.loop-announcement.sockets.ports.start in
    let a = g.L.Link.calls c.args.sockets.now.ports.link in
    let b = g.L.Link.calls c.loop-announcement.sockets.ports.link in
    let e = g.L.Link.calls c.match-announcement.sockets.ports.link in
    let first = ipv4_octets c.args.sockets.now.binding.address in
    let here = ipv4_octets c.loop-announcement.sockets.binding.address in
    let bound : here ≡ first = ap (λ b. ipv4_octets b.address) inv.same.binding in
    let item = c.announcement-item.result in
    let step : AnnouncesMore t b e (addressed everyone here item)
    × IsSameSockets c.loop-announcement.sockets c.match-announcement.sockets =
    elim c.match-announcement.branch [
      | in-Everyone w ↦
          subst (λ x. AnnouncesMore t b (g.L.Link.calls x.ports.link) (addressed everyone here item)
          × IsSameSockets c.loop-announcement.sockets x) (sym w.sockets-is) (
            subst (λ (d : Destination). AnnouncesMore t b
                (g.L.Link.calls w.send_to_everyone.new.sockets.ports.link)
                (to_each (places_of everyone here d) item.octets)) (sym w.in-Everyone.is)
                (subst (λ (o : List ℕ). AnnouncesMore t b
                (g.L.Link.calls w.send_to_everyone.new.sockets.ports.link) (to_each everyone o))
                c.as_slice-octets.ensures w.send_to_everyone.ensures.announced),
            w.send_to_everyone.ensures.same,
          )
      | in-Peer w ↦
          subst (λ x. AnnouncesMore t b (g.L.Link.calls x.ports.link) (addressed everyone here item)
          × IsSameSockets c.loop-announcement.sockets x) (sym w.sockets-is) (
            subst (λ (d : Destination). AnnouncesMore t b
                (g.L.Link.calls w.send_to_peer.new.sockets.ports.link)
                (to_each (places_of everyone here d) item.octets)) (sym w.in-Peer.is)
                (subst (λ (o : List ℕ). AnnouncesMore t b
                (g.L.Link.calls w.send_to_peer.new.sockets.ports.link)
                (to_each (filter (is_answered here) w.in-Peer.to) o)) c.as_slice-octets.ensures
                (subst (λ (l : List Locator). AnnouncesMore t b
                (g.L.Link.calls w.send_to_peer.new.sockets.ports.link)
                (to_each (filter (is_answered here) l) c.as_slice-octets.result.now))
                w.as_slice.ensures.items w.send_to_peer.ensures.announced)),
            w.send_to_peer.ensures.same,
          )
    ] in
    record {
      announced = subst (λ (l : List (Locator × List ℕ)). AnnouncesMore s a e l)
          (all_more everyone first c.args.announcements.now i item c.loop-announcement-test.true)
          (more_then s t (ap instant_nanos inv.same.start) a b e _ _ inv.announced
          (subst (λ x. AnnouncesMore t b e (addressed everyone first x)) c.announcement-item.is
          (subst (λ (x : List ℕ). AnnouncesMore t b e (addressed everyone x item)) bound step.0)));
      same = same_then _ _ _ inv.same step.1;
    }

pub loop-announcement-init : goal.loop-announcement-init
loop-announcement-init g c = record {
  announced = none_more (instant_nanos c.args.sockets.now.ports.start)
      (g.L.Link.calls c.args.sockets.now.ports.link);
  same = record { start = refl; binding = refl };
}
