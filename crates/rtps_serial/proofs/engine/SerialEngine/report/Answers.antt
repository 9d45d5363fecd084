use Rattle.std.proofs.Common.{map, subst}
use Rattle.rtps_receiver.specs.Events.{events_of}
use Rattle.rtps_discovery.specs.declared.config.Config.{Config}
use Rattle.rtps_run.specs.Occurrence.{Came, Passes}
use Rattle.rtps_run.specs.Run.{world_run}
use Rattle.rtps_run.specs.Standing.{WorldStands}
use Rattle.rtps_run.specs.World.{world_after}
use Rattle.rtps_run.proofs.Answered.{on_ok_then}
use Rattle.rtps_serial.proofs.engine.SerialEngine.report.Goals as goal

pub returns-clause-stands : goal.returns-clause-stands
returns-clause-stands g c w old =
    let f = g.C.Catalog.view in
    let engine = c.args.self.now in
    let passed_by = c.pass.new.self in
    let new = c.report_events.new.self in
    let reports = c.report_events.new.reports.items in
    let octets = c.args.datagram.bytes.now in
    let d = g.C.Catalog.decoding engine.catalog in
    let v = world_after d w (Passes engine.index c.args.datagram.moment) in
    let same = c.in_ok-pass.ensures.same in
    on_ok_then c.report_events.result
    (λ stands. subst (λ i. WorldStands f (world_run d v (map Came (events_of engine.config.own i octets))) w.put new.discovery.kept new.readers reports) same.index
    (subst (λ (k : Config). WorldStands f (world_run d v (map Came (events_of k.own passed_by.index octets))) w.put new.discovery.kept new.readers reports) same.config
    (subst (λ k. WorldStands f (world_run (g.C.Catalog.decoding k) v (map Came (events_of passed_by.config.own passed_by.index octets))) w.put new.discovery.kept new.readers reports) same.catalog stands)))
    (c.report_events.ensures.stands v w.put (c.in_ok-pass.ensures.stands w old))
