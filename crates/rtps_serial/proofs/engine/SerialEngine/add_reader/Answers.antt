use Rattle.std.proofs.Common.{◌++◌, ◌∷◌, [], ◌∙◌, ap, length, map, sym}
use Rattle.rtps_discovery.specs.Start.{wish_of}
use Rattle.rtps_run.specs.Input.{AddReader}
use Rattle.rtps_run.specs.Outcome.{report_view}
use Rattle.rtps_run.specs.Standing.{run_by}
use Rattle.rtps_run.proofs.Dealt.{adds_dealt}
use Rattle.rtps_run.proofs.Moved.{joined_stands}
use Rattle.rtps_serial.proofs.engine.SerialEngine.add_reader.Goals as goal

pub finish-requires-clause-there : goal.finish-requires-clause-there
finish-requires-clause-there g c κs within new finished =
    let there = c.in_ok-rank.ensures.there in (
      there.0 ++ AddReader (wish_of c.args.reader) ∷ [],
      joined_stands g.C.Catalog.view g.C.Catalog.decoding there.0 (wish_of c.args.reader) c.in_ok-show_next.ensures.shown.0 c.args.self.now c.join.new.self c.show_next.new.self new c.in_ok-rank.reports.items there.1
          c.in_ok-rank.ensures.moved (c.in_ok-rank.ensures.stands there.0 there.1) (c.in_ok-show_next.ensures.same ∙ ap (λ l. record c.join.new.self { statuses = l }) c.in_ok-show_next.ensures.shown.1) finished,
    )

pub returns-clause-stands : goal.returns-clause-stands
returns-clause-stands g c inputs kept =
    joined_stands g.C.Catalog.view g.C.Catalog.decoding inputs (wish_of c.args.reader) c.in_ok-show_next.ensures.shown.0 c.args.self.now c.join.new.self c.show_next.new.self c.finish.new.self c.in_ok-rank.reports.items kept
    c.in_ok-rank.ensures.moved (c.in_ok-rank.ensures.stands inputs kept) (c.in_ok-show_next.ensures.same ∙ ap (λ l. record c.join.new.self { statuses = l }) c.in_ok-show_next.ensures.shown.1) c.finish.ensures

pub returns-clause-adds : goal.returns-clause-adds
returns-clause-adds g c inputs kept =
    let old = c.args.self.now in
    let x = AddReader (wish_of c.args.reader) in
    let reports = c.in_ok-rank.reports.items in
    let there = c.in_ok-rank.ensures.stands inputs kept in
    adds_dealt g.C.Catalog.view (run_by g.C.Catalog.decoding old inputs) (run_by g.C.Catalog.decoding old (inputs ++ x ∷ [])) (length c.join.new.self.readers) (map (report_view g.C.Catalog.view) reports) c.in_ok-outcome.outcome
    (sym there.readers.count) there.readers.put c.in_ok-outcome.ensures
