use Rattle.std.proofs.Common.{◌≡◌, map, take}
use Rattle.rtps_planner.proofs.planner.ranks_of.Given as goal

abbrev pub invariant-loop-job : goal.invariant-loop-job
invariant-loop-job g l = l.ranks.items ≡ map (λ job. job.rank) (take l.job-index l.jobs)
