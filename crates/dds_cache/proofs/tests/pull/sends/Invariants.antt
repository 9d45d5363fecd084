use Rattle.std.proofs.Common.{◌≡◌}
use Rattle.dds_cache.proofs.tests.pull.sends.Given as goal

-- the end is of the same ring
abbrev pub invariant-loop-notice : goal.invariant-loop-notice
invariant-loop-notice l = l.outlet.ring ≡ l.fn.outlet.ring
