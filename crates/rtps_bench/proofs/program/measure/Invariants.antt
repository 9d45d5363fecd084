use Rattle.std.proofs.Common.{◌≡◌, length}
use Rattle.rtps_bench.proofs.program.measure.Given as goal

-- there is a time for each run so far
abbrev pub invariant-loop : goal.invariant-loop
invariant-loop g l = length l.nanos.items ≡ l.counter
