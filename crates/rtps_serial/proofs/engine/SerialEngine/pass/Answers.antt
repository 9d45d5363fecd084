use Rattle.std.proofs.Common.{map, subst, sym}
use Rattle.rtps_discovery.specs.Seen.{change_seen}
use Rattle.rtps_run.specs.Occurrence.{Passes, head_of}
use Rattle.rtps_run.specs.Standing.{ReadersStand}
use Rattle.rtps_run.specs.Steps.{change_step, steps_run}
use Rattle.rtps_run.proofs.Answered.{on_ok_then}
use Rattle.rtps_run.proofs.Routed.{discovered}
use Rattle.rtps_serial.proofs.Passing.{before_stands, passes_stand}
use Rattle.rtps_serial.proofs.engine.SerialEngine.pass.Goals as goal

pub returns-clause-stands : goal.returns-clause-stands
returns-clause-stands g c = rw (sym c.self.view_is) (λ w old.
    let f = g.C.Catalog.view in
    let d = g.C.Catalog.decoding c.self.inside.readers.decoder in
    let index = c.self.inside.index in
    let moment = c.args.moment in
    let v = discovered w (Passes index moment) in
    let states = c.take_changes.new.readers.states.items in
    let reports = c.take_changes.new.reports.items in
    on_ok_then c.take_changes.result
    (λ stands. passes_stand f d w index moment w.put c.expire.new.self.kept c.in_ok-ended.ended.items states reports (c.in_ok-ended.ensures.known w.known old.known) (c.in_ok-ended.ensures.changes w.known old.known)
    (subst (λ l. ReadersStand f (steps_run d (head_of index) v (map change_step (map change_seen l))) w.put states reports) c.deref.ensures.value stands))
    (c.take_changes.ensures.stands v w.put
    (subst (λ l. ReadersStand f v w.put c.self.inside.readers.states.items l) (sym c.clear.ensures.items) (before_stands f w index moment w.put c.self.inside.readers.states.items old.readers))))
