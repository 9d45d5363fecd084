use Rattle.std.proofs.Common.{◌≡◌}
use Rattle.dds_cache.proofs.tests.pull.fills.Given as goal

-- the end is of the same ring
abbrev pub invariant-loop : goal.invariant-loop
invariant-loop l = l.inlet.ring ≡ l.fn.inlet.ring
