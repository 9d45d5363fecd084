use Rattle.std.proofs.Common.{ap}
use Rattle.std.specs.Time.{instant_nanos}
use Rattle.rtps_udp.proofs.Receiving.{holds_after, holds_waited, takes_later}
use Rattle.rtps_udp.proofs.sockets.Sockets.receive_later.Goals as goal

pub returns-in_err-fill-clause-holds : goal.returns-in_err-fill-clause-holds
returns-in_err-fill-clause-holds g c =
    rw c.in_err-fill.ensures.moment
    (holds_after _ _ _ 0 _ _ (holds_waited _ _ _ _ _ _ _ (ap instant_nanos c.in_ok-wait_for.ensures.start)
    c.in_ok-wait_for.ensures.waited) c.in_err-fill.ensures.holds)

pub returns-clause-takes : goal.returns-clause-takes
returns-clause-takes g c =
    takes_later _ _ _ _ _ _ _ _ _ _ _ (ap instant_nanos c.in_ok-wait_for.ensures.start)
    c.in_ok-fill.ensures.moment c.in_ok-wait_for.ensures.waited c.in_ok-fill.ensures.fills

pub returns-clause-holds : goal.returns-clause-holds
returns-clause-holds g c =
    rw c.in_ok-fill.ensures.moment
    (holds_after _ _ _ 0 _ _ (holds_waited _ _ _ _ _ _ _ (ap instant_nanos c.in_ok-wait_for.ensures.start)
    c.in_ok-wait_for.ensures.waited) c.in_ok-fill.ensures.holds)
