use Rattle.std.proofs.Common.{arith}
use Rattle.rtps_records.specs.declared.fault.RunFault.{RunFault}
use Rattle.rtps_records.proofs.Faults.{at_fault}
use Rattle.rtps_text.specs.Live.{StopsShort}
use Rattle.rtps_text.proofs.Hearing.{same_live, stopped_same}
use Rattle.rtps_text.proofs.live.Live.take_all.Goals as goal

pub returns-in_err-end-clause-stops : goal.returns-in_err-end-clause-stops
returns-in_err-end-clause-stops g c =
    let text = g.C.Catalog.text_of in
    let decoding = g.C.Catalog.decoding in
    let inv = c.loop-self.invariant in
    let run = c.loop-self.self.run in
    let first_run = c.args.self.now.run in
    let same = same_live text decoding run.participant.engine first_run.participant.engine
    run.summary first_run.summary inv.same.catalog inv.same.config inv.same.summary in
    at_fault _ _ (λ (fault : RunFault). StopsShort text decoding c.args.self.now fault
    (g.N.Receive.traffic c.args.network.now) (g.N.Receive.traffic c.take.new.network)
    (g.W.Write.contents c.args.lines.now.writer.now) (g.W.Write.contents c.take.new.lines.writer.now))
    c.from_residual.ensures.1
    (λ first origin most waits l. stopped_same _ _ most waits waits _ _ _ _ _ same (omega arith)
    (c.in_err-end.ensures.stops first origin most waits (inv.goes_on first origin most waits l)))
