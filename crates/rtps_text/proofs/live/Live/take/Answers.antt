use Rattle.std.proofs.Common.{◌≡◌, ◌+◌, ◌-◌, ◌≤◌, add-zero, arith, inl, inr, length, refl, subst}
use Rattle.rtps_records.specs.Batches.{records_in}
use Rattle.rtps_records.specs.declared.fault.RunFault.{RunFault}
use Rattle.rtps_records.specs.declared.receive_end.ReceiveEnd.TheVariants.{More}
use Rattle.rtps_records.proofs.Faults.{at_fault}
use Rattle.rtps_text.specs.Live.{Listens, StopsShort}
use Rattle.rtps_text.proofs.Calls.{comes_begun, comes_received, last_is}
use Rattle.rtps_text.proofs.Held.{any_used}
use Rattle.rtps_text.proofs.Hearing.{breaks_off, goes_on, keeps_turn, live_as, stopped_same, stops_untaken}
use Rattle.rtps_text.proofs.live.Live.take.Goals as goal

pub process-requires-clause-few : goal.process-requires-clause-few
process-requires-clause-few g c κs within =
    omega (arith, c.receive.ensures.few, c.most-most.ensures.few)

pub returns-in_err-end-clause-stops : goal.returns-in_err-end-clause-stops
returns-in_err-end-clause-stops g c =
    let text = g.C.Catalog.text_of in
    let decoding = g.C.Catalog.decoding in
    let heard = c.in_err-end.ensures.stops in
    let few : length (records_in c.receive.new.self) ≤ c.args.self.now.left =
    omega (arith, c.receive.ensures.few, c.most-most.ensures.left) in
    at_fault _ _ (λ (fault : RunFault). StopsShort text decoding c.args.self.now fault
    (g.N.Receive.traffic c.args.network.now) (g.N.Receive.traffic c.receive.new.source)
    (g.W.Write.contents c.args.lines.now.writer.now) (g.W.Write.contents c.args.lines.now.writer.now))
    c.from_residual.ensures.1
    (λ first origin most waits l.
    let comes = comes_begun c.args.self.now.moment _ _ heard.are in
    stopped_same _ _ most (waits + 0) waits _ _ _ _ _ refl (omega arith)
    (stops_untaken text decoding first _ _ origin _ most _ waits 0 _ _ _ _
    c.args.self.now.run.participant.engine c.args.self.now.run.summary _ _ More
    comes heard.grows few l (keeps_turn text decoding first _ origin _ most _ waits _ _ _ _ More _ _ _ comes l)))

pub returns-in_err-process-clause-stops : goal.returns-in_err-process-clause-stops
returns-in_err-process-clause-stops g c =
    let text = g.C.Catalog.text_of in
    let view = g.C.Catalog.view in
    let decoding = g.C.Catalog.decoding in
    let heard = c.in_ok-end.ensures.receives in
    let few : length (records_in c.receive.new.self) ≤ c.args.self.now.left =
    omega (arith, c.receive.ensures.few, c.most-most.ensures.left) in
    at_fault _ _ (λ (fault : RunFault). StopsShort text decoding c.args.self.now fault
    (g.N.Receive.traffic c.args.network.now) (g.N.Receive.traffic c.process.new.network)
    (g.W.Write.contents c.args.lines.now.writer.now) (g.W.Write.contents c.process.new.lines.writer.now))
    c.from_residual-in_err-process.ensures.1
    (λ first origin most waits l.
    let comes = comes_received c.args.self.now.moment _ _ c.in_ok-end.end heard.are in
    stopped_same _ _ most (waits + 0) waits _ _ _ _ _ refl (omega arith)
    (breaks_off text view decoding first _ _ _ origin _ _ most _ waits 0 _ _ _ _
    _ c.process.new.self _ _ More _ (live_as c.args.self.now _ c.requires.live refl refl)
    comes heard.grows few c.in_err-process.ensures.stops l
    (keeps_turn text decoding first _ origin _ most _ waits _ _ _ _ More _ _ _ comes l)))

pub returns-clause-goes_on : goal.returns-clause-goes_on
returns-clause-goes_on g c = λ first origin most waits l.
    let text = g.C.Catalog.text_of in
    let view = g.C.Catalog.view in
    let decoding = g.C.Catalog.decoding in
    let heard = c.in_ok-end.ensures.receives in
    let batch = records_in c.receive.new.self in
    let left : c.args.self.now.left ≡ length batch + (c.args.self.now.left - c.len.result) =
    omega (arith, c.receive.ensures.few, c.most-most.ensures.left, c.len.ensures) in
    let comes = comes_received c.args.self.now.moment batch _ c.in_ok-end.end heard.are in
    rw (c.process.ensures.left, c.process.ensures.moment)
    (subst (λ w. Listens text decoding first (g.N.Receive.traffic c.process.new.network) origin
    (g.W.Write.contents c.process.new.lines.writer.now) most (c.args.self.now.left - c.len.result) w
    c.args.self.now.moment c.in_ok-end.end c.process.new.self.run.participant.engine) (add-zero waits)
    (goes_on text view decoding first _ _ _ origin _ _ most _ _ waits 0 _ _ _ _ _
    c.process.new.self batch _ More c.in_ok-end.end
    (live_as c.args.self.now _ c.requires.live refl refl) c.in_ok-process.ensures.same
    comes refl refl heard.grows
    (λ calls sends. last_is c.in_ok-end.end calls heard.datagrams sends) left
    c.in_ok-process.ensures.processes l
    (keeps_turn text decoding first _ origin _ most _ waits _ _ _ _ More _ _ _ comes l)))

pub returns-clause-fewer : goal.returns-clause-fewer
returns-clause-fewer g c = λ is. elim (c.in_ok-end.ensures.full is) [
  | inl all ↦
      omega (arith, all, c.most-most.ensures.some, c.most-most.ensures.left, c.len.ensures)
  | inr used ↦
      let some = any_used c.receive.new.self (omega (arith, used)) in
      omega (arith, some, c.receive.ensures.few, c.most-most.ensures.left, c.len.ensures)
]
