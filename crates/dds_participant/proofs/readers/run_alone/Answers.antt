use Rattle.std.proofs.Common.{ℕ, ◌≡◌, ◌-◌, ◌<◌, ◌∙◌, ap, arith, get_or-set_other, length, length-set, map, rules, suc}
use Rattle.rtps_receiver.specs.Events.{view}
use Rattle.rtps_planner.specs.Plan.{job_seen, jobs_by}
use Rattle.rtps_shards.specs.Results.{Share}
use Rattle.dds_participant.specs.Readers.{AreJobs, IsAsked}
use Rattle.dds_participant.proofs.Pairing.{last_asked}
use Rattle.dds_participant.proofs.Returned.{rank_run, share_at}
use Rattle.dds_participant.proofs.readers.run_alone.Goals as goal

pub ranks-preserved : goal.ranks-preserved
ranks-preserved g c =
    let f = g.C.Catalog.view in
    let decoding = g.C.Catalog.decoding c.args.batch.now.catalog.now in
    let es = map view c.args.batch.now.events.now in
    let was = c.ranks.invariant in
    let states = c.ranks.states.items in
    let n = c.ranks.rank - 1 in
    let some : 0 < c.ranks.rank = c.ranks-test.true in
    let top : c.ranks.rank ≡ suc n = omega (arith, some) in
    let few = was.few in
    let asked : (shares : ℕ → Share g.C.Catalog.Meaning) → AreJobs es shares c.args.assigned.jobs.items (length c.args.assigned.readers.states.items)
    → (map (job_seen es) c.last_of-job.new.jobs.items ≡ jobs_by (λ rank. (shares rank).job) n) × IsAsked es c.last_of-job.result (shares n).job
    = λ shares are. last_asked es (λ rank. (shares rank).job) n c.ranks.jobs.items c.last_of-job.new.jobs.items c.last_of-job.result c.last_of-job.ensures.items c.last_of-job.ensures.last
    (was.jobs shares are ∙ ap (jobs_by (λ rank. (shares rank).job)) top) in
    record {
      few = omega (arith, few);
      count = length-set states n c.do_job.new.state ∙ was.count;
      outputs = length-set c.ranks.outputs.items n c.do_job.new.output ∙ was.outputs;
      catalog = search rules;
      front = λ rank other less. get_or-set_other states n rank c.do_job.new.state other (λ e. absurd (omega (arith, e, less))) ∙ was.front rank other (omega (arith, less));
      jobs = λ shares are. (asked shares are).0;
      run = λ shares all are.
          let stands = share_at shares c.args.assigned.readers.states.items states n c.ranks.rank c.index_mut-state.result.now top few was.front c.index_mut-state.ensures.value all in
          let mine = (asked shares are).1 in
          rank_run f decoding shares n c.ranks.rank states c.ranks.outputs.items c.do_job.new.state c.do_job.new.output top (
            record { stands = c.in_ok-do_job.ensures.stands was.catalog (shares n) mine stands.stands; ranked = c.do_job.ensures.rank ∙ stands.ranked },
            c.in_ok-do_job.ensures.output was.catalog (shares n) mine stands.stands,
          ) (was.run shares all are);
    }
