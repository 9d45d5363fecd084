use Rattle.std.proofs.Common.{◌≡◌, ◌++◌, length}
use Rattle.rtps_shards.specs.Apart.{somes}
use Rattle.rtps_shards.proofs.apart.spaced.Given as goal

-- what has a place and what is left are all
abbrev pub invariant-loop-job : goal.invariant-loop-job
invariant-loop-job g l = somes l.places.items ++ l.rest.rest.items ≡ l.fn.jobs.items

abbrev pub decreases-loop-job : goal.decreases-loop-job
decreases-loop-job g l = length l.rest.rest.items
