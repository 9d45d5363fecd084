use Rattle.std.proofs.Common.{rules, ap, subst}
use Rattle.std.specs.Time.{instant_nanos}
use Rattle.rtps_udp.proofs.Announced.{quiet_break, quiet_wait}
use Rattle.rtps_udp.proofs.Calls.{seen_break, seen_turn}
use Rattle.rtps_udp.specs.Ports.{WaitsUntil}
use Rattle.rtps_udp.proofs.sockets.Sockets.wait_turn.Goals as goal

pub returns-in_err-moment-clause-fault : goal.returns-in_err-moment-clause-fault
returns-in_err-moment-clause-fault g c =
    let grows = seen_break _ _ _ _ _ (ap instant_nanos c.in_err-moment.ensures.start) c.in_err-moment.ensures.fault in
    search rules

pub returns-in_err-moment-clause-quiet : goal.returns-in_err-moment-clause-quiet
returns-in_err-moment-clause-quiet g c = quiet_break _ _ _ c.in_err-moment.ensures.fault

pub returns-clause-waited : goal.returns-clause-waited
returns-clause-waited g c =
    seen_turn _ _ _ _ _ (ap instant_nanos c.in_ok-moment.ensures.start)
    (subst (λ n. WaitsUntil n (instant_nanos c.args.self.now.ports.start) c.in_ok-moment.moment
    (g.L.Link.calls c.args.self.now.ports.link) (g.L.Link.calls c.wait.new.self.link)) c.turn.ensures c.in_ok-moment.ensures.waited)

pub returns-clause-quiet : goal.returns-clause-quiet
returns-clause-quiet g c = quiet_wait _ _ _ _ _ c.in_ok-moment.ensures.waited
