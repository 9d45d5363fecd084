use Rattle.std.proofs.Common.{refl}
use Rattle.rtps_shards.proofs.workers.run_posted.Goals as goal

pub returns-clause-done : goal.returns-clause-done
returns-clause-done g c same = record {
  rank = refl;
  reader = c.run_job.ensures.rank;
  value = λ s is. record {
    state = c.in_ok-run_job.ensures.stands same s is.job is.state;
    output = c.in_ok-run_job.ensures.output same s is.job is.state;
  };
  spent = λ is. (c.in_ok-run_job.ensures.sound is, c.run_job.ensures.still is);
}
