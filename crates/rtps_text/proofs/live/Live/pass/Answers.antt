use Rattle.std.proofs.Common.{[], ◌∷◌, arith, refl}
use Rattle.rtps_records.specs.RecordFile.{Tick}
use Rattle.rtps_records.specs.declared.receive_end.ReceiveEnd.TheVariants.{Drained, More}
use Rattle.rtps_text.proofs.Calls.{comes_turned}
use Rattle.rtps_text.proofs.Hearing.{breaks_off, goes_on, live_as, turns_next}
use Rattle.rtps_text.proofs.Run.{if_err_then, on_ok_both}
use Rattle.rtps_text.proofs.live.Live.pass.Goals as goal

pub process-requires-clause-few : goal.process-requires-clause-few
process-requires-clause-few g c κs within = rw c.hold_tick.ensures (omega arith)

pub returns-clause-goes_on : goal.returns-clause-goes_on
returns-clause-goes_on g c =
    let text = g.C.Catalog.text_of in
    let view = g.C.Catalog.view in
    let decoding = g.C.Catalog.decoding in
    let live = live_as c.args.self.now _ c.requires.live refl refl in
    rw (c.process.ensures.left, c.process.ensures.moment)
    (on_ok_both c.process.result (λ same done. λ first start origin most waits waited l.
    goes_on text view decoding first start _ _ origin _ _ most _ _ waits 1 _ _ 0 0 _
    c.process.new.self (Tick c.args.moment ∷ []) _ Drained More live same
    (comes_turned _ c.args.moment) refl refl
    waited (λ calls sends. tt) (omega arith) (rw c.hold_tick.ensures at done) l
    (turns_next text decoding first start origin _ most _ waits _ c.args.moment _ l))
    c.process.ensures.same c.process.ensures.processes)

pub returns-clause-stops : goal.returns-clause-stops
returns-clause-stops g c =
    let text = g.C.Catalog.text_of in
    let view = g.C.Catalog.view in
    let decoding = g.C.Catalog.decoding in
    let live = live_as c.args.self.now _ c.requires.live refl refl in
    if_err_then c.process.result (λ fault off. λ first start origin most waits waited l.
    breaks_off text view decoding first start _ _ origin _ _ most _ waits 1 _ _ 0 0 _
    c.process.new.self (Tick c.args.moment ∷ []) _ Drained fault live
    (comes_turned _ c.args.moment)
    waited
    (omega arith) (rw c.hold_tick.ensures at off) l
    (turns_next text decoding first start origin _ most _ waits _ c.args.moment _ l))
    c.process.ensures.stops
