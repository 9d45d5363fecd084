use Rattle.std.proofs.Common.{◌++◌, ◌∷◌, [], length, map, sym}
use Rattle.rtps_run.specs.Input.{arrived}
use Rattle.rtps_run.specs.Outcome.{report_view}
use Rattle.rtps_run.specs.Standing.{run_by}
use Rattle.rtps_run.proofs.Dealt.{adds_dealt}
use Rattle.rtps_run.proofs.Taking.{datagram_counts, datagram_stays, next_stands, taken}
use Rattle.rtps_serial.proofs.engine.SerialEngine.take.Goals as goal

pub finish-requires-clause-there : goal.finish-requires-clause-there
finish-requires-clause-there g c κs within new finished =
    let inputs = c.in_ok-admit_datagram.ensures.there.0 in
    let kept = c.in_ok-admit_datagram.ensures.there.1 in (
      inputs ++ arrived c.args.datagram ∷ [],
      taken g.C.Catalog.view g.C.Catalog.decoding inputs (arrived c.args.datagram) 1 c.args.self.now c.admit_datagram.new.self c.report.new.self new c.report.new.reports.items kept (datagram_counts c.args.datagram.moment c.args.datagram.bytes.now)
          (datagram_stays g.C.Catalog.decoding inputs c.args.datagram.moment c.args.datagram.bytes.now c.args.self.now kept) c.in_ok-admit_datagram.ensures.ok.2 c.in_ok-report.ensures.same c.in_ok-report.ensures.stands c.in_ok-report.ensures.unspent finished,
    )

pub returns-clause-stands : goal.returns-clause-stands
returns-clause-stands g c inputs kept =
    taken g.C.Catalog.view g.C.Catalog.decoding inputs (arrived c.args.datagram) 1 c.args.self.now c.admit_datagram.new.self c.report.new.self c.finish.new.self c.report.new.reports.items kept (datagram_counts c.args.datagram.moment c.args.datagram.bytes.now)
    (datagram_stays g.C.Catalog.decoding inputs c.args.datagram.moment c.args.datagram.bytes.now c.args.self.now kept) c.in_ok-admit_datagram.ensures.ok.2 c.in_ok-report.ensures.same c.in_ok-report.ensures.stands c.in_ok-report.ensures.unspent c.finish.ensures

pub returns-clause-adds : goal.returns-clause-adds
returns-clause-adds g c inputs kept =
    let old = c.args.self.now in
    let x = arrived c.args.datagram in
    let reports = c.report.new.reports.items in
    let there = next_stands g.C.Catalog.view g.C.Catalog.decoding inputs x old c.admit_datagram.new.self c.report.new.self reports kept c.in_ok-admit_datagram.ensures.ok.2 c.in_ok-report.ensures.stands in
    adds_dealt g.C.Catalog.view (run_by g.C.Catalog.decoding old inputs) (run_by g.C.Catalog.decoding old (inputs ++ x ∷ [])) (length c.report.new.self.readers) (map (report_view g.C.Catalog.view) reports) c.in_ok-outcome.outcome
    (sym there.readers.count) there.readers.put c.in_ok-outcome.ensures
