use Rattle.std.proofs.Common.{◌++◌, ◌∷◌, [], ◌∙◌, sym}
use Rattle.rtps_run.specs.Input.{Tick}
use Rattle.rtps_run.proofs.Answered.{ok_of}
use Rattle.rtps_run.proofs.Taking.{put_taken, taken, tick_counts, tick_stays}
use Rattle.rtps_serial.proofs.engine.SerialEngine.tick_in_order.Goals as goal

pub finish-requires-clause-there : goal.finish-requires-clause-there
finish-requires-clause-there g c κs within new finished =
    let inputs = c.in_ok-admit.ensures.there.0 in
    let kept = c.in_ok-admit.ensures.there.1 in (
      inputs ++ Tick c.args.moment ∷ [],
      taken g.C.Catalog.view g.C.Catalog.decoding inputs (Tick c.args.moment) 0 c.args.self.now c.admit.new.self c.pass.new.self new c.pass.new.reports.items kept (tick_counts c.args.moment)
          (tick_stays g.C.Catalog.decoding inputs c.args.moment c.args.self.now kept) c.in_ok-admit.ensures.ok.2 c.pass.ensures.same
          (λ w old. ok_of c.pass.result (sym c.is_err.ensures.value ∙ c.if-is_err.false) (c.pass.ensures.stands w old))
          (ok_of c.pass.result (sym c.is_err.ensures.value ∙ c.if-is_err.false) c.pass.ensures.unspent) finished,
    )

pub returns-clause-stands : goal.returns-clause-stands
returns-clause-stands g c inputs kept =
    taken g.C.Catalog.view g.C.Catalog.decoding inputs (Tick c.args.moment) 0 c.args.self.now c.admit.new.self c.pass.new.self c.finish.new.self c.pass.new.reports.items kept (tick_counts c.args.moment)
    (tick_stays g.C.Catalog.decoding inputs c.args.moment c.args.self.now kept) c.in_ok-admit.ensures.ok.2 c.pass.ensures.same
    (λ w old. ok_of c.pass.result (sym c.is_err.ensures.value ∙ c.if-is_err.false) (c.pass.ensures.stands w old))
    (ok_of c.pass.result (sym c.is_err.ensures.value ∙ c.if-is_err.false) c.pass.ensures.unspent) c.finish.ensures

pub returns-clause-put : goal.returns-clause-put
returns-clause-put g c inputs kept =
    put_taken g.C.Catalog.view g.C.Catalog.decoding inputs (Tick c.args.moment) c.args.self.now c.admit.new.self c.pass.new.self c.pass.new.reports.items kept c.in_ok-admit.ensures.ok.2
    (λ w old. ok_of c.pass.result (sym c.is_err.ensures.value ∙ c.if-is_err.false) (c.pass.ensures.stands w old))
