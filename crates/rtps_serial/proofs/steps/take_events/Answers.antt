use Rattle.std.proofs.Common.{◌≡◌, ◌+◌, ◌<◌, ◌∙◌, ap, arith, get_or, length, map, rules, subst, sym, take}
use Rattle.std.proofs.Math.ListN.{get_or-map}
use Rattle.std.proofs.lemmas.List.{length-map, take_all}
use Rattle.rtps_receiver.specs.Events.{view}
use Rattle.rtps_run.specs.Occurrence.{Came}
use Rattle.rtps_run.specs.Run.{world_run}
use Rattle.rtps_run.specs.Standing.{WorldStands}
use Rattle.rtps_run.specs.World.{World, world_after}
use Rattle.rtps_run.proofs.Running.{event_more}
use Rattle.rtps_serial.proofs.steps.take_events.Goals as goal

pub loop-event-preserved : goal.loop-event-preserved
loop-event-preserved g c =
    let f = g.C.Catalog.view in
    let d = g.C.Catalog.decoding c.args.readers.now.decoder in
    let i = c.loop-event.event-index in
    let items = c.args.events.now in
    let event = c.event-item.result in
    let new = c.take_event.new in
    let less : i < length items = search rules in
    let below : i < length (map view items) = omega (arith, less, length-map items view) in
    let read : get_or items i event ≡ event = search rules in
    let more : (w : World g.C.Catalog.Meaning) → world_run d w (map Came (take (i + 1) (map view items))) ≡ world_after d (world_run d w (map Came (take i (map view items)))) (Came (view event))
    = λ w. event_more d w (map view items) i (view event) below ∙ ap (λ e. world_after d (world_run d w (map Came (take i (map view items)))) (Came e)) (get_or-map view items i event ∙ ap view read) in
    record {
      same = c.in_ok-take_event.ensures.same ∙ c.loop-event.invariant.same;
      unspent = λ old. c.in_ok-take_event.ensures.unspent (c.loop-event.invariant.unspent old);
      count = c.in_ok-take_event.ensures.count ∙ c.loop-event.invariant.count;
      stands = λ w earlier old. subst (λ (v : World g.C.Catalog.Meaning). WorldStands f v earlier new.discovery.kept new.readers.states.items new.reports.items) (sym (more w))
          (subst (λ k. WorldStands f (world_after (g.C.Catalog.decoding k) (world_run d w (map Came (take i (map view items)))) (Came (view event))) earlier new.discovery.kept new.readers.states.items new.reports.items) c.loop-event.invariant.same
          (c.in_ok-take_event.ensures.stands (world_run d w (map Came (take i (map view items)))) earlier (c.loop-event.invariant.stands w earlier old)));
    }

pub returns-clause-stands : goal.returns-clause-stands
returns-clause-stands g c w earlier old =
    let d = g.C.Catalog.decoding c.args.readers.now.decoder in
    let items = c.args.events.now in
    let i = c.loop-event.event-index in
    let whole : take i (map view items) ≡ map view items = take_all i (map view items) (omega (arith, c.loop-event-test.false, length-map items view)) in
    subst (λ es. WorldStands g.C.Catalog.view (world_run d w (map Came es)) earlier c.loop-event.discovery.kept c.loop-event.readers.states.items c.loop-event.reports.items) whole (c.loop-event.invariant.stands w earlier old)
