use Rattle.std.proofs.Common.{◌≡◌, ℕ, ◌++◌, List, length, map}
use Rattle.rtps_receiver.specs.Events.{EventView}
use Rattle.rtps_planner.specs.Job.{Job}
use Rattle.rtps_planner.specs.Plan.{AreSteps, job_seen, jobs_by}
use Rattle.rtps_planner.proofs.planner.jobs_of.Given as goal

-- the jobs of the ranks so far are there
abbrev pub invariant-loop-rank : goal.invariant-loop-rank
invariant-loop-rank g l = record {
  jobs : (es : List EventView) (asked : ℕ → Job) → AreSteps es l.fn.lists.items asked → map (job_seen es) l.jobs.items ≡ jobs_by asked (length l.yielded);
  left : l.fn.lists.items ≡ map (λ s. s.1) l.yielded ++ l.rank-iterator.iter.rest.items;
  count : l.rank-iterator.count ≡ length l.yielded;
}
