use Rattle.std.proofs.Common.{◌++◌, ◌∷◌, [], ◌∙◌, sym}
use Rattle.rtps_run.specs.Input.{arrived}
use Rattle.rtps_run.proofs.Answered.{ok_of}
use Rattle.rtps_run.proofs.Taking.{datagram_counts, datagram_stays, put_taken, taken}
use Rattle.rtps_serial.proofs.engine.SerialEngine.take_in_order.Goals as goal

pub finish-requires-clause-there : goal.finish-requires-clause-there
finish-requires-clause-there g c κs within new finished =
    let inputs = c.in_ok-admit_datagram.ensures.there.0 in
    let kept = c.in_ok-admit_datagram.ensures.there.1 in (
      inputs ++ arrived c.args.datagram ∷ [],
      taken g.C.Catalog.view g.C.Catalog.decoding inputs (arrived c.args.datagram) 1 c.args.self.now c.admit_datagram.new.self c.report.new.self new c.report.new.reports.items kept (datagram_counts c.args.datagram.moment c.args.datagram.bytes.now)
          (datagram_stays g.C.Catalog.decoding inputs c.args.datagram.moment c.args.datagram.bytes.now c.args.self.now kept) c.in_ok-admit_datagram.ensures.ok.2 c.report.ensures.same
          (λ w old. ok_of c.report.result (sym c.is_err.ensures.value ∙ c.if-is_err.false) (c.report.ensures.stands w old))
          (ok_of c.report.result (sym c.is_err.ensures.value ∙ c.if-is_err.false) c.report.ensures.unspent) finished,
    )

pub returns-clause-stands : goal.returns-clause-stands
returns-clause-stands g c inputs kept =
    taken g.C.Catalog.view g.C.Catalog.decoding inputs (arrived c.args.datagram) 1 c.args.self.now c.admit_datagram.new.self c.report.new.self c.finish.new.self c.report.new.reports.items kept (datagram_counts c.args.datagram.moment c.args.datagram.bytes.now)
    (datagram_stays g.C.Catalog.decoding inputs c.args.datagram.moment c.args.datagram.bytes.now c.args.self.now kept) c.in_ok-admit_datagram.ensures.ok.2 c.report.ensures.same
    (λ w old. ok_of c.report.result (sym c.is_err.ensures.value ∙ c.if-is_err.false) (c.report.ensures.stands w old))
    (ok_of c.report.result (sym c.is_err.ensures.value ∙ c.if-is_err.false) c.report.ensures.unspent) c.finish.ensures

pub returns-clause-put : goal.returns-clause-put
returns-clause-put g c inputs kept =
    put_taken g.C.Catalog.view g.C.Catalog.decoding inputs (arrived c.args.datagram) c.args.self.now c.admit_datagram.new.self c.report.new.self c.report.new.reports.items kept c.in_ok-admit_datagram.ensures.ok.2
    (λ w old. ok_of c.report.result (sym c.is_err.ensures.value ∙ c.if-is_err.false) (c.report.ensures.stands w old))
