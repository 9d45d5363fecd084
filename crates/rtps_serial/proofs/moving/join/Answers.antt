use Rattle.std.proofs.Common.{◌∙◌, ◌++◌, ◌∷◌, [], map, subst, sym}
use Rattle.rtps_types.specs.declared.identity.GuidPrefix.{GuidPrefix}
use Rattle.rtps_types.specs.declared.place.Place.{Place}
use Rattle.rtps_discovery.specs.Seen.{change_seen}
use Rattle.rtps_discovery.specs.Start.{wish_of}
use Rattle.rtps_reader.specs.Reader.{first_reader}
use Rattle.rtps_reader.specs.Standing.{StartsAt, facts_in}
use Rattle.rtps_run.specs.Occurrence.{head_of}
use Rattle.rtps_run.specs.Standing.{ReadersStand}
use Rattle.rtps_run.specs.Steps.{change_step, steps_run}
use Rattle.rtps_run.specs.World.{is_reliable}
use Rattle.rtps_run.proofs.Moving.{joins_stand, start_stands, started}
use Rattle.rtps_serial.proofs.moving.join.Goals as goal

pub returns-clause-stands : goal.returns-clause-stands
returns-clause-stands g c w old unheard =
    let f = g.C.Catalog.view in
    let d = g.C.Catalog.decoding c.args.readers.now.decoder in
    let index = c.args.index in
    let r = wish_of c.args.reader in
    let state = c.in_ok-state.state in
    let cs = map change_seen c.in_ok-rank.matches.items in
    let states = c.take_changes.new.readers.states.items in
    let reports = c.take_changes.new.reports.items in
    let v = started d w index r in
    let start : StartsAt (first_reader w.known.own r.entity (is_reliable r.policies.reliability) []) state
    = subst (λ (own : GuidPrefix). StartsAt (first_reader own r.entity (is_reliable r.policies.reliability) []) state) (c.own.ensures ∙ old.known.own)
    (subst (λ b. StartsAt (first_reader c.own.result r.entity b []) state) c.is_reliable-reliable.ensures
    (subst (λ l. StartsAt (first_reader c.own.result r.entity c.is_reliable-reliable.result (map facts_in l)) state) (c.as_slice.ensures.value ∙ c.new-fixed.ensures.items) c.in_ok-state.ensures.starts)) in
    let first : ReadersStand {A = g.row.A.Denot} f v w.put (c.args.readers.now.states.items ++ state ∷ []) []
    = start_stands f d w index r w.put c.args.readers.now.states.items state [] old.readers unheard start
    (c.in_ok-state.ensures.place.0 ∙ c.in_ok-rank.ensures.rank w.known old.known ∙ sym old.readers.count) in
    let told : ReadersStand f (steps_run d (head_of index) v (map change_step cs)) w.put states reports
    = subst (λ (p : Place). ReadersStand f (steps_run d p v (map change_step cs)) w.put states reports) c.head_of.ensures
    (subst (λ l. ReadersStand f (steps_run d c.head_of.result v (map change_step (map change_seen l))) w.put states reports) c.deref.ensures.value
    (subst (λ k. ReadersStand f (steps_run (g.C.Catalog.decoding k) c.head_of.result v (map change_step (map change_seen c.deref.result.now))) w.put states reports) c.in_ok-start.ensures.same
    (c.in_ok-take_changes.ensures.stands v w.put
    (subst (λ l. ReadersStand f v w.put c.start.new.self.states.items l) (sym c.new-reports.ensures.items)
    (subst (λ l. ReadersStand {A = g.row.A.Denot} f v w.put l []) (sym c.in_ok-start.ensures.states) first))))) in
    joins_stand f d w index r w.put c.add_reader.new.self.kept cs states reports (c.in_ok-rank.ensures.known w.known old.known) (c.in_ok-rank.ensures.changes w.known old.known) told
