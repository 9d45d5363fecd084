use Rattle.std.proofs.Common.{◌≡◌, length}
use Rattle.rtps_receiver.specs.Counters.{all_noted}
use Rattle.rtps_explain.proofs.counting.count_outcomes.Given as goal

abbrev pub invariant-loop-outcome : goal.invariant-loop-outcome
invariant-loop-outcome l = record {
  counted : all_noted l.outcomes.left l.counters ≡ all_noted l.fn.outcomes.left l.fn.counters;
  fault : l.outcomes.fault ≡ l.fn.outcomes.fault;
}

abbrev pub decreases-loop-outcome : goal.decreases-loop-outcome
decreases-loop-outcome l = length l.outcomes.left
