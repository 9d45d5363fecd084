use Rattle.std.proofs.Common.{◌≡◌, ◌+◌, ◌≤◌, ◌^◌, drop}
use Rattle.rtps_proxy.specs.Runs.{AreApart, missing_from}
use Rattle.rtps_proxy.proofs.settled.Settled.count_missing.Given as goal

abbrev pub invariant-loop-run : goal.invariant-loop-run
invariant-loop-run g l = record {
  apart : AreApart l.at (drop l.run-index l.self.runs);
  small : l.at ≤ 2 ^ 62 + 1;
  few : l.count ≤ l.at;
  counted : l.count + missing_from l.at (drop l.run-index l.self.runs) l.end ≡ missing_from l.self.frontier l.self.runs l.end;
}
