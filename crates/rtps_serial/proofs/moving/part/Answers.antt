use Rattle.std.proofs.Common.{map, subst, sym}
use Rattle.rtps_types.specs.declared.place.Place.{Place}
use Rattle.rtps_discovery.specs.Seen.{change_seen}
use Rattle.rtps_run.specs.Occurrence.{Parts, head_of}
use Rattle.rtps_run.specs.Standing.{ReadersStand}
use Rattle.rtps_run.specs.Steps.{change_step, steps_run}
use Rattle.rtps_run.proofs.Moving.{goes_discovered, goes_stand}
use Rattle.rtps_run.proofs.Routed.{discovered}
use Rattle.rtps_serial.proofs.moving.part.Goals as goal

pub returns-clause-stands : goal.returns-clause-stands
returns-clause-stands g c w old =
    let f = g.C.Catalog.view in
    let d = g.C.Catalog.decoding c.args.readers.now.decoder in
    let index = c.args.index in
    let gone = c.args.rank in
    let v = discovered w (Parts index gone) in
    let cs = map change_seen c.in_ok-ends.ends.items in
    let states = c.take_changes.new.readers.states.items in
    let reports = c.take_changes.new.reports.items in
    let told : ReadersStand f (steps_run d (head_of index) v (map change_step cs)) w.put states reports
    = subst (λ (p : Place). ReadersStand f (steps_run d p v (map change_step cs)) w.put states reports) c.head_of.ensures
    (subst (λ l. ReadersStand f (steps_run d c.head_of.result v (map change_step (map change_seen l))) w.put states reports) c.deref.ensures.value
    (c.in_ok-take_changes.ensures.stands v w.put
    (subst (λ l. ReadersStand f v w.put c.args.readers.now.states.items l) (sym c.new-reports.ensures.items) (goes_discovered f w index gone w.put c.args.readers.now.states.items old.readers)))) in
    goes_stand f d w index gone w.put c.remove_reader.new.self.kept cs c.stop.new.self.states.items reports (c.in_ok-ends.ensures.known w.known old.known) (c.in_ok-ends.ensures.changes w.known old.known)
    (c.stop.ensures.stands d (head_of index) (steps_run d (head_of index) v (map change_step cs)) w.put reports told)
