use Rattle.rtps_planner.proofs.Rising.{AreRightTo}
use Rattle.rtps_planner.proofs.outputs.are_in_order.Given as goal

abbrev pub invariant-loop-at : goal.invariant-loop-at
invariant-loop-at g l = AreRightTo l.planned l.outputs l.at l.least
