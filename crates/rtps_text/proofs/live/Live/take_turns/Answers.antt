use Rattle.std.proofs.Common.{◌+◌, ◌≤◌, ◌∙◌, arith}
use Rattle.rtps_records.specs.declared.fault.RunFault.{RunFault}
use Rattle.rtps_records.proofs.Faults.{at_fault}
use Rattle.rtps_text.specs.Live.{TurnsStop}
use Rattle.rtps_text.proofs.Hearing.{as_drained, ends_failed, ends_full, ends_passed, is_drained, listens_failed, no_failure, same_live, same_run, stopped_same}
use Rattle.rtps_text.proofs.live.Live.take_turns.Goals as goal

pub returns-then-self-eq0-clause-takes : goal.returns-then-self-eq0-clause-takes
returns-then-self-eq0-clause-takes g c = record {
  waits = c.loop-turn._turn;
  few = omega arith;
  ends = ends_full c.loop-turn.end _ _ _ (omega arith);
  goes_on = c.loop-turn.invariant.goes_on;
}

pub returns-in-Err-clause-takes : goal.returns-in-Err-clause-takes
returns-in-Err-clause-takes g c = record {
  waits = c.loop-turn._turn;
  few = omega arith;
  ends = tt;
  goes_on = λ first origin most l.
      listens_failed g.C.Catalog.text_of g.C.Catalog.decoding first _ _ origin _ most _ _ _
      c.loop-turn.end _ (no_failure c.loop-turn.end c.loop-turn.invariant.none)
      c.in-Err.ensures.fault (c.loop-turn.invariant.goes_on first origin most l);
}

pub returns-in_err-pass-clause-stops : goal.returns-in_err-pass-clause-stops
returns-in_err-pass-clause-stops g c =
    let text = g.C.Catalog.text_of in
    let decoding = g.C.Catalog.decoding in
    let inv = c.loop-turn.invariant in
    let run = c.loop-turn.self.run in
    let first_run = c.args.self.now.run in
    let within : c.loop-turn._turn + 1 ≤ c.args.turns = omega arith in
    let same = same_live text decoding run.participant.engine first_run.participant.engine
    run.summary first_run.summary inv.same.catalog inv.same.config inv.same.summary in
    at_fault _ _ (λ (fault : RunFault). TurnsStop text decoding c.args.turns c.args.self.now fault
    (g.N.Receive.traffic c.args.network.now) (g.N.Receive.traffic c.pass.new.network)
    (g.W.Write.contents c.args.lines.now.writer.now)
    (g.W.Write.contents c.pass.new.lines.writer.now))
    c.from_residual.ensures.1
    (λ first origin most l. stopped_same _ _ most _ _ _ _ _ _ _ same within
    (c.in_err-pass.ensures.stops first _ origin most c.loop-turn._turn c.in-Ok.ensures.waited
    (as_drained text decoding first _ origin _ most _ _ _ c.loop-turn.end _
    (is_drained c.loop-turn.end _ inv.none inv.all (λ none. omega (arith, none)))
    (inv.goes_on first origin most l))))

pub returns-in_err-end-clause-stops : goal.returns-in_err-end-clause-stops
returns-in_err-end-clause-stops g c =
    let text = g.C.Catalog.text_of in
    let decoding = g.C.Catalog.decoding in
    let inv = c.loop-turn.invariant in
    let run = c.pass.new.self.run in
    let first_run = c.args.self.now.run in
    let within : c.loop-turn._turn + 1 ≤ c.args.turns = omega arith in
    let stays = same_run _ _ _ inv.same c.in_ok-pass.ensures.same in
    let same = same_live text decoding run.participant.engine first_run.participant.engine
    run.summary first_run.summary stays.catalog stays.config stays.summary in
    at_fault _ _ (λ (fault : RunFault). TurnsStop text decoding c.args.turns c.args.self.now fault
    (g.N.Receive.traffic c.args.network.now) (g.N.Receive.traffic c.take_all.new.network)
    (g.W.Write.contents c.args.lines.now.writer.now)
    (g.W.Write.contents c.take_all.new.lines.writer.now))
    c.from_residual-in_err-end.ensures.1
    (λ first origin most l. stopped_same _ _ most _ _ _ _ _ _ _ same within
    (c.in_err-end.ensures.stops first origin most (c.loop-turn._turn + 1)
    (c.in_ok-pass.ensures.goes_on first _ origin most c.loop-turn._turn c.in-Ok.ensures.waited
    (as_drained text decoding first _ origin _ most _ _ _ c.loop-turn.end _
    (is_drained c.loop-turn.end _ inv.none inv.all (λ none. omega (arith, none)))
    (inv.goes_on first origin most l)))))

pub returns-in-Fault-clause-takes : goal.returns-in-Fault-clause-takes
returns-in-Fault-clause-takes g c =
    let text = g.C.Catalog.text_of in
    let decoding = g.C.Catalog.decoding in
    let inv = c.loop-turn.invariant in
    record {
      waits = c.loop-turn._turn + 1;
      few = omega arith;
      ends = ends_failed c.in_ok-end.end _ _ _ c.in-Fault.is;
      goes_on = λ first origin most l.
          c.in_ok-end.ensures.goes_on first origin most (c.loop-turn._turn + 1)
          (c.in_ok-pass.ensures.goes_on first _ origin most c.loop-turn._turn c.in-Ok.ensures.waited
          (as_drained text decoding first _ origin _ most _ _ _ c.loop-turn.end _
          (is_drained c.loop-turn.end _ inv.none inv.all (λ none. omega (arith, none)))
          (inv.goes_on first origin most l)));
    }

pub loop-turn-preserved : goal.loop-turn-preserved
loop-turn-preserved g c =
    let text = g.C.Catalog.text_of in
    let decoding = g.C.Catalog.decoding in
    let inv = c.loop-turn.invariant in
    record {
      live = c.in_ok-end.ensures.live;
      empty = c.in_ok-end.ensures.empty;
      same_writer = c.take_all.ensures.same_writer ∙ c.pass.ensures.same_writer ∙ inv.same_writer;
      speech = c.take_all.ensures.speech ∙ c.pass.ensures.speech ∙ c.in-Ok.ensures.speech
          ∙ inv.speech;
      same = same_run _ _ _ (same_run _ _ _ inv.same c.in_ok-pass.ensures.same)
          c.in_ok-end.ensures.same;
      all = c.in_ok-end.ensures.all;
      none = c.in_default.not-Fault;
      goes_on = λ first origin most l.
          c.in_ok-end.ensures.goes_on first origin most (c.loop-turn._turn + 1)
          (c.in_ok-pass.ensures.goes_on first _ origin most c.loop-turn._turn c.in-Ok.ensures.waited
          (as_drained text decoding first _ origin _ most _ _ _ c.loop-turn.end _
          (is_drained c.loop-turn.end _ inv.none inv.all (λ none. omega (arith, none)))
          (inv.goes_on first origin most l)));
    }

pub returns-clause-takes : goal.returns-clause-takes
returns-clause-takes g c = record {
  waits = c.loop-turn._turn;
  few = omega arith;
  ends = ends_passed c.loop-turn.end _ _ _ c.loop-turn.invariant.all (omega arith);
  goes_on = c.loop-turn.invariant.goes_on;
}
