use Rattle.std.proofs.Common.{◌≤◌, ◌+◌, replicate, take, drop, length}
use Rattle.std.specs.List.{AllByRecursion}
use Rattle.rtps_proxy.specs.Runs.{EndBelow, end_of, marks}
use Rattle.rtps_types.proofs.Walks.{Walked}
use Rattle.rtps_proxy.proofs.settled.Settled.missing_up_to.Given as goal

abbrev pub invariant-loop-offset : goal.invariant-loop-offset
invariant-loop-offset g l = record {
  within : l.at ≤ length l.self.runs;
  before : EndBelow (l.self.frontier + l.offset + 1) (take l.at l.self.runs);
  behind : AllByRecursion (λ r. l.self.frontier + l.offset ≤ end_of r) (drop l.at l.self.runs);
  walked : Walked (marks l.self.frontier l.self.runs) l.self.frontier l.count l.offset l.words (replicate 8 0) l.bits;
}
