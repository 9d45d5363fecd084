use Rattle.std.proofs.Common.{◌≡◌, List}
use Rattle.rtps_proxy.specs.Matches.{AllStand, Match}
use Rattle.rtps_reader.specs.Standing.{IsSameReader}
use Rattle.rtps_reader.proofs.Stopping.{Left}
use Rattle.rtps_reader.proofs.stateful.StatefulReader.stop.Given as goal

-- with each turn one match more has ended, until none is left
abbrev pub invariant-loop : goal.invariant-loop
invariant-loop g l = record {
  left : (ms : List Match) → AllStand ms l.fn.self.matches → Left l.counter ms l.self.matches;
  counts : l.self.counts ≡ l.fn.self.counts;
  reader : IsSameReader l.fn.self l.self;
}
