use Rattle.std.proofs.Common.{◌≡◌, drop}
use Rattle.rtps_discovery.specs.Config.{has_twice, is_same_entity}
use Rattle.rtps_discovery.proofs.faults.has_entity_twice.Given as goal

abbrev pub invariant-loop-at : goal.invariant-loop-at
invariant-loop-at l = has_twice is_same_entity (drop l.at l.readers) ≡ has_twice is_same_entity l.readers
