use Rattle.std.proofs.Common.{◌≡◌, drop}
use Rattle.rtps_discovery.specs.Config.{has_twice, is_same_pair}
use Rattle.rtps_discovery.proofs.faults.has_pair_twice.Given as goal

abbrev pub invariant-loop-at : goal.invariant-loop-at
invariant-loop-at l = has_twice is_same_pair (drop l.at l.pairs) ≡ has_twice is_same_pair l.pairs
