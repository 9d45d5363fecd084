use Rattle.std.proofs.Common.{◌≡◌, length, map}
use Rattle.rtps_reader.specs.Notice.{answer_view}
use Rattle.rtps_run.specs.Order.{left}
use Rattle.rtps_run.proofs.order.InOrderIterator.next.Given as goal

abbrev pub invariant-loop-place : goal.invariant-loop-place
invariant-loop-place g l =
    left l.initial.self-inside.places.now (map answer_view l.initial.self-inside.rest.said.now)
    l.initial.self-inside.rest.rows.items l.initial.self-inside.rest.at
    ≡ left l.self-inside.places.now (map answer_view l.self-inside.rest.said.now)
    l.self-inside.rest.rows.items l.self-inside.rest.at

abbrev pub decreases-loop-place : goal.decreases-loop-place
decreases-loop-place g l = length l.self-inside.places.now
