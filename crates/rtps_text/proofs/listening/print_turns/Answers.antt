use Rattle.std.proofs.Common.{Result, ap}
use Rattle.rtps_text.specs.Listened.{Listened, limits_of}
use Rattle.rtps_text.specs.Live.{failures_of, live_by}
use Rattle.rtps_text.specs.declared.live_fault.LiveFault.{LiveFault}
use Rattle.rtps_text.proofs.Hearing.{at_run, listened_ok, listened_socket, listened_stop, listened_unclosed, listens_done, listens_none, no_failure, same_live}
use Rattle.rtps_text.proofs.listening.print_turns.Goals as goal

pub returns-in_err-end-clause-prints : goal.returns-in_err-end-clause-prints
returns-in_err-end-clause-prints g c =
    let text = g.C.Catalog.text_of in
    let decoding = g.C.Catalog.decoding in
    let run = c.args.live.run in
    let l = listens_none text decoding (g.N.Receive.traffic c.args.network.now)
    (g.W.Write.contents c.args.lines.now.writer.now) c.args.live.left c.args.live.moment run.participant.engine
    c.requires.unread c.requires.fresh in
    at_run _ _ (λ (r : Result (Unit {0}) LiveFault). Listened
    (live_by text decoding run.participant.engine run.summary) (limits_of c.args.live.left c.args.turns) r
    (g.N.Receive.traffic c.args.network.now) (g.N.Receive.traffic c.take_turns.new.network)
    (g.W.Write.contents c.args.lines.now.writer.now) (g.W.Write.contents c.take_turns.new.lines.writer.now))
    c.from_residual.ensures.1
    (listened_stop _ _ _ _ _ _ _ _ (c.in_err-end.ensures.stops _ _ c.args.live.left l))

pub returns-in_err-close-clause-prints : goal.returns-in_err-close-clause-prints
returns-in_err-close-clause-prints g c =
    let text = g.C.Catalog.text_of in
    let decoding = g.C.Catalog.decoding in
    let run = c.args.live.run in
    let next = c.take_turns.new.self.run in
    let same = c.in_ok-end.ensures.same in
    let made = same_live text decoding next.participant.engine run.participant.engine
    next.summary run.summary same.catalog same.config same.summary in
    let turns = c.in_ok-end.ensures.takes in
    let l = turns.goes_on _ _ c.args.live.left
    (listens_none text decoding (g.N.Receive.traffic c.args.network.now)
    (g.W.Write.contents c.args.lines.now.writer.now) c.args.live.left c.args.live.moment run.participant.engine
    c.requires.unread c.requires.fresh) in
    at_run _ _ (λ (r : Result (Unit {0}) LiveFault). Listened
    (live_by text decoding run.participant.engine run.summary) (limits_of c.args.live.left c.args.turns) r
    (g.N.Receive.traffic c.args.network.now) (g.N.Receive.traffic c.take_turns.new.network)
    (g.W.Write.contents c.args.lines.now.writer.now) (g.W.Write.contents c.close.new.lines.writer.now))
    c.from_residual-in_err-close.ensures.1
    (listened_unclosed text decoding _ _ _ _ _ _ _ _ _ _ _ next.participant.engine next.summary
    c.in_ok-end.end _ _ made c.in_ok-end.ensures.empty c.in_err-close.ensures.fault turns.few
    turns.ends l)

pub returns-in-Fault-clause-prints : goal.returns-in-Fault-clause-prints
returns-in-Fault-clause-prints g c =
    let text = g.C.Catalog.text_of in
    let decoding = g.C.Catalog.decoding in
    let run = c.args.live.run in
    let next = c.take_turns.new.self.run in
    let same = c.in_ok-end.ensures.same in
    let made = same_live text decoding next.participant.engine run.participant.engine
    next.summary run.summary same.catalog same.config same.summary in
    let turns = c.in_ok-end.ensures.takes in
    let l = turns.goes_on _ _ c.args.live.left
    (listens_none text decoding (g.N.Receive.traffic c.args.network.now)
    (g.W.Write.contents c.args.lines.now.writer.now) c.args.live.left c.args.live.moment run.participant.engine
    c.requires.unread c.requires.fresh) in
    let done = listens_done text decoding _ _ _ _ _ _ _ _ _ _ _ next.participant.engine next.summary
    _ made c.in_ok-end.ensures.empty c.in_ok-close.ensures.ok l in
    listened_socket text decoding _ _ _ _ _ _ _ _ _ _ _ next.participant.engine next.summary
    c.in_ok-end.end made (ap failures_of c.in-Fault.is) turns.few l done

pub returns-clause-prints : goal.returns-clause-prints
returns-clause-prints g c =
    let text = g.C.Catalog.text_of in
    let decoding = g.C.Catalog.decoding in
    let run = c.args.live.run in
    let next = c.take_turns.new.self.run in
    let same = c.in_ok-end.ensures.same in
    let made = same_live text decoding next.participant.engine run.participant.engine
    next.summary run.summary same.catalog same.config same.summary in
    let turns = c.in_ok-end.ensures.takes in
    let l = turns.goes_on _ _ c.args.live.left
    (listens_none text decoding (g.N.Receive.traffic c.args.network.now)
    (g.W.Write.contents c.args.lines.now.writer.now) c.args.live.left c.args.live.moment run.participant.engine
    c.requires.unread c.requires.fresh) in
    let done = listens_done text decoding _ _ _ _ _ _ _ _ _ _ _ next.participant.engine next.summary
    _ made c.in_ok-end.ensures.empty c.in_ok-close.ensures.ok l in
    listened_ok text decoding _ _ _ _ _ _ _ _ _ _ _ next.participant.engine next.summary
    c.in_ok-end.end _ made (no_failure c.in_ok-end.end c.in_default.not-Fault) turns.few
    turns.ends l done
