use Rattle.std.proofs.Common.{ℕ, ◌∙◌, List, ap, refl, subst}
use Rattle.std.specs.Time.{instant_nanos}
use Rattle.rtps_types.specs.declared.locator.Locator.{Locator}
use Rattle.rtps_announced.specs.Announced.{AnnouncesMore}
use Rattle.rtps_announced.proofs.Sent.{each_more, more_then, none_more, one_more}
use Rattle.rtps_announced.proofs.sending.send_to_everyone.Goals as goal

pub loop-to-preserved : goal.loop-to-preserved
loop-to-preserved g c =
    let inv = c.loop-to.invariant in
    let sent = c.announce-lost.ensures in
    let s = instant_nanos c.args.sockets.now.ports.start in
    let t = instant_nanos c.loop-to.sockets.ports.start in
    let a = g.L.Link.calls c.args.sockets.now.ports.link in
    let b = g.L.Link.calls c.loop-to.sockets.ports.link in
    let e = g.L.Link.calls c.announce-lost.new.self.ports.link in
    record {
      announced = subst (λ (l : List (Locator × List ℕ)). AnnouncesMore s a e l)
          (each_more c.args.everyone.now c.loop-to.to-index _ c.args.octets.now c.loop-to-test.true)
          (more_then s t (ap instant_nanos inv.same.start) a b e _ _ inv.announced
          (one_more t b e _ c.args.octets.now _ sent.sent));
      same = record {
        start = sent.start ∙ inv.same.start;
        binding = sent.same ∙ inv.same.binding;
      };
    }

pub loop-to-init : goal.loop-to-init
loop-to-init g c = record {
  announced = none_more (instant_nanos c.args.sockets.now.ports.start)
      (g.L.Link.calls c.args.sockets.now.ports.link);
  same = record { start = refl; binding = refl };
}
