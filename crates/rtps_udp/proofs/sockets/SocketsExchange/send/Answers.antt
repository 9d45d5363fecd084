use Rattle.std.proofs.Common.{ap}
use Rattle.std.specs.Time.{instant_nanos}
use Rattle.rtps_udp.proofs.Calls.{seen_answer}
use Rattle.rtps_udp.proofs.sockets.SocketsExchange.send.Goals as goal

pub returns-clause-sent : goal.returns-clause-sent
returns-clause-sent g c =
    seen_answer _ _ _ _ _ _ _ c.send_answer-sent.result _ (ap instant_nanos c.send_answer-sent.ensures.start)
    c.send_answer-sent.ensures.refused c.send_answer-sent.ensures.sent
