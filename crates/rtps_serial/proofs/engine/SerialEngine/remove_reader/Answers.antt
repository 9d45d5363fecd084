use Rattle.std.proofs.Common.{◌++◌, ◌∷◌, [], length, map, sym}
use Rattle.rtps_run.specs.Input.{RemoveReader}
use Rattle.rtps_run.specs.Outcome.{report_view}
use Rattle.rtps_run.specs.Standing.{run_by}
use Rattle.rtps_run.proofs.Dealt.{adds_dealt}
use Rattle.rtps_run.proofs.Moved.{parted_stands}
use Rattle.rtps_serial.proofs.engine.SerialEngine.remove_reader.Goals as goal

pub finish-requires-clause-there : goal.finish-requires-clause-there
finish-requires-clause-there g c κs within new finished =
    let there = c.in_ok-reports.ensures.there in (
      there.0 ++ RemoveReader c.args.rank ∷ [],
      parted_stands g.C.Catalog.view g.C.Catalog.decoding there.0 c.args.rank c.args.self.now c.part.new.self c.hide.new.self new c.in_ok-reports.reports.items there.1
          c.in_ok-reports.ensures.moved c.in_ok-reports.ensures.within (c.in_ok-reports.ensures.stands there.0 there.1) c.hide.ensures finished,
    )

pub returns-clause-stands : goal.returns-clause-stands
returns-clause-stands g c inputs kept =
    parted_stands g.C.Catalog.view g.C.Catalog.decoding inputs c.args.rank c.args.self.now c.part.new.self c.hide.new.self c.finish.new.self c.in_ok-reports.reports.items kept
    c.in_ok-reports.ensures.moved c.in_ok-reports.ensures.within (c.in_ok-reports.ensures.stands inputs kept) c.hide.ensures c.finish.ensures

pub returns-clause-adds : goal.returns-clause-adds
returns-clause-adds g c inputs kept =
    let old = c.args.self.now in
    let x = RemoveReader c.args.rank in
    let reports = c.in_ok-reports.reports.items in
    let there = c.in_ok-reports.ensures.stands inputs kept in
    adds_dealt g.C.Catalog.view (run_by g.C.Catalog.decoding old inputs) (run_by g.C.Catalog.decoding old (inputs ++ x ∷ [])) (length c.part.new.self.readers) (map (report_view g.C.Catalog.view) reports) c.in_ok-outcome.outcome
    (sym there.readers.count) there.readers.put c.in_ok-outcome.ensures
