use Rattle.std.proofs.Common.{◌++◌, ◌∷◌, [], length, map, sym}
use Rattle.rtps_run.specs.Input.{Tick}
use Rattle.rtps_run.specs.Outcome.{report_view}
use Rattle.rtps_run.specs.Standing.{run_by}
use Rattle.rtps_run.proofs.Dealt.{adds_dealt}
use Rattle.rtps_run.proofs.Taking.{next_stands, taken, tick_counts, tick_stays}
use Rattle.rtps_serial.proofs.engine.SerialEngine.tick.Goals as goal

pub finish-requires-clause-there : goal.finish-requires-clause-there
finish-requires-clause-there g c κs within new finished =
    let inputs = c.in_ok-admit.ensures.there.0 in
    let kept = c.in_ok-admit.ensures.there.1 in (
      inputs ++ Tick c.args.moment ∷ [],
      taken g.C.Catalog.view g.C.Catalog.decoding inputs (Tick c.args.moment) 0 c.args.self.now c.admit.new.self c.pass.new.self new c.pass.new.reports.items kept (tick_counts c.args.moment)
          (tick_stays g.C.Catalog.decoding inputs c.args.moment c.args.self.now kept) c.in_ok-admit.ensures.ok.2 c.in_ok-pass.ensures.same c.in_ok-pass.ensures.stands c.in_ok-pass.ensures.unspent finished,
    )

pub returns-clause-stands : goal.returns-clause-stands
returns-clause-stands g c inputs kept =
    taken g.C.Catalog.view g.C.Catalog.decoding inputs (Tick c.args.moment) 0 c.args.self.now c.admit.new.self c.pass.new.self c.finish.new.self c.pass.new.reports.items kept (tick_counts c.args.moment)
    (tick_stays g.C.Catalog.decoding inputs c.args.moment c.args.self.now kept) c.in_ok-admit.ensures.ok.2 c.in_ok-pass.ensures.same c.in_ok-pass.ensures.stands c.in_ok-pass.ensures.unspent c.finish.ensures

pub returns-clause-adds : goal.returns-clause-adds
returns-clause-adds g c inputs kept =
    let old = c.args.self.now in
    let x = Tick c.args.moment in
    let reports = c.pass.new.reports.items in
    let there = next_stands g.C.Catalog.view g.C.Catalog.decoding inputs x old c.admit.new.self c.pass.new.self reports kept c.in_ok-admit.ensures.ok.2 c.in_ok-pass.ensures.stands in
    adds_dealt g.C.Catalog.view (run_by g.C.Catalog.decoding old inputs) (run_by g.C.Catalog.decoding old (inputs ++ x ∷ [])) (length c.pass.new.self.readers) (map (report_view g.C.Catalog.view) reports) c.in_ok-outcome.outcome
    (sym there.readers.count) there.readers.put c.in_ok-outcome.ensures
