use Rattle.std.proofs.Common.{◌≡◌, ◌∙◌, ap, map, subst, sym}
use Rattle.rtps_receiver.specs.Events.{events_of, view}
use Rattle.rtps_run.specs.Occurrence.{Came}
use Rattle.rtps_run.specs.Run.{world_run}
use Rattle.rtps_run.specs.Standing.{WorldStands}
use Rattle.rtps_run.proofs.Answered.{on_ok_then}
use Rattle.rtps_serial.proofs.engine.SerialEngine.report_events.Goals as goal

pub returns-clause-stands : goal.returns-clause-stands
returns-clause-stands g c = rw (sym c.self.view_is) (λ w earlier old.
    let d = g.C.Catalog.decoding c.self.inside.readers.decoder in
    let new = c.take_events.new in
    let read : map view c.deref.result.now ≡ events_of c.self.inside.config.own c.self.inside.index c.args.octets.now = ap (map view) c.deref.ensures.value ∙ c.in-Ok.ensures in
    on_ok_then c.take_events.result
    (λ stands. subst (λ es. WorldStands g.C.Catalog.view (world_run d w (map Came es)) earlier new.discovery.kept new.readers.states.items new.reports.items) read stands)
    (c.take_events.ensures.stands w earlier old))
