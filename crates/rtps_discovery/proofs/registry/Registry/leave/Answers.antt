use Rattle.std.specs.List.Sorted.{IsStrictlySortedBy}
use Rattle.rtps_discovery.proofs.registry.Registry.leave.Goals as goal

pub leave_all-requires : goal.leave_all-requires
unfolding IsStrictlySortedBy
leave_all-requires g c = (tt, tt)
