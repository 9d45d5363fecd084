use Rattle.std.proofs.Common.{◌≡◌, ◌++◌, length}
use Rattle.rtps_discovery.proofs.leases.listed.Given as goal

abbrev pub invariant-found : goal.invariant-found
invariant-found g l = l.list.items ++ l.found.keys ≡ l.fn.found.keys

abbrev pub decreases-found : goal.decreases-found
decreases-found g l = length l.found.keys
