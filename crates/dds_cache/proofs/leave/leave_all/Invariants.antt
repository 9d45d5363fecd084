use Rattle.std.proofs.Common.{length}
use Rattle.dds_cache.proofs.Going.{IsGoing}
use Rattle.dds_cache.proofs.leave.leave_all.Given as goal

-- no other writer's pairs have left, and the counts of live writers are right
abbrev pub invariant-pairs : goal.invariant-pairs
invariant-pairs g l = IsGoing l.writer l.fn.index l.index

abbrev pub decreases-pairs : goal.decreases-pairs
decreases-pairs g l = length l.index.live.keys
