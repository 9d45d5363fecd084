use Rattle.std.proofs.Common.{ℕ, List, Some, None, ◌≡◌, ◌-◌, ◌<◌, ◌≤◌, ◌++◌, ◌∷◌, [], ◌∙◌, All, ap, arith, get_or-set_other, length, length-append, length-set, map, subst, suc, sym}
use Rattle.std.proofs.lemmas.List.{map_push}
use Rattle.std.proofs.lemmas.List.Elements.{All-push}
use Rattle.rtps_receiver.specs.Events.{EventView}
use Rattle.rtps_planner.specs.declared.jobs.Job as plan_job
use Rattle.rtps_planner.specs.Plan.{job_seen, jobs_by}
use Rattle.rtps_shards.specs.Results.{IsReady, Share, rank_in}
use Rattle.dds_participant.specs.Readers.{AreJobs, IsAsked, IsNoneOf}
use Rattle.dds_participant.proofs.Pairing.{idle_done, last_asked, ready}
use Rattle.dds_participant.proofs.Returned.{fewer, rank_idle, rank_lent, share_at}
use Rattle.dds_participant.proofs.readers.lend.Goals as goal

pub ranks-preserved-in-Continue-branch-3 : goal.ranks-preserved-in-Continue-branch-3
ranks-preserved-in-Continue-branch-3 g c =
    let f = g.C.Catalog.view in
    let was = c.ranks.invariant in
    let states = c.ranks.readers.states.items in
    let outputs = c.ranks.readers.outputs.items in
    let n = c.ranks.rank - 1 in
    let some : 0 < c.ranks.rank = c.ranks-test.true in
    let top : c.ranks.rank ≡ suc n = omega (arith, some) in
    let few = was.few in
    let work = c.ranks.work.items in
    let job = c.in-Some.job in
    let one = c.in_ok-posted-in-Some.posted in
    let pushed : c.push.new.self.items ≡ work ++ one ∷ [] = c.in_ok-push-in-Some.ensures.items in
    let is_job = c.in_ok-posted-in-Some.ensures.0 in
    let is_state = c.in_ok-posted-in-Some.ensures.1 in
    let ranked = c.in-Some.ensures.last in
    let more : map rank_in c.push.new.self.items ≡ map rank_in work ++ n ∷ [] = ap (map rank_in) pushed ∙ map_push rank_in work one ∙ ap (λ r. map rank_in work ++ r ∷ []) (ap (λ (j : plan_job.Job _). j.rank) is_job ∙ ranked) in
    let within = λ (rank : ℕ). rank < length c.args.readers.now.states.items in
    let asked : (es : List EventView) (shares : ℕ → Share g.C.Catalog.Meaning) → AreJobs es shares c.args.jobs.items (length c.args.readers.now.states.items)
    → (map (job_seen es) c.last_of.new.jobs.items ≡ jobs_by (λ rank. (shares rank).job) n) × IsAsked es (Some job) (shares n).job
    = λ es shares are. last_asked es (λ rank. (shares rank).job) n c.ranks.jobs.items c.last_of.new.jobs.items (Some job) c.in-Some.ensures.items c.in-Some.ensures.last
    (was.jobs es shares are ∙ ap (jobs_by (λ rank. (shares rank).job)) top) in
    record {
      few = omega (arith, few, ap length pushed, length-append work (one ∷ []), some);
      count = length-set states n c.take_out.new.state ∙ was.count;
      outputs = length-set outputs n c.take_out.new.output ∙ was.outputs;
      ranks = subst (All within) (sym more) (All-push within (map rank_in work) n was.ranks (omega (arith, few, some)));
      front = λ rank other less. get_or-set_other states n rank c.take_out.new.state other (λ e. absurd (omega (arith, e, less))) ∙ was.front rank other (omega (arith, less));
      jobs = λ es shares are. (asked es shares are).0;
      ready = λ es shares all are.
          let stands = share_at shares c.args.readers.now.states.items states n c.ranks.rank c.index_mut-state.result.now top (omega (arith, few)) was.front c.index_mut-state.ensures.value all in
          subst (All (IsReady es shares)) (sym pushed)
          (All-push (IsReady es shares) work one (was.ready es shares all are) (ready es shares n one job c.index_mut-state.result.now is_job is_state ranked (asked es shares are).1 stands));
      idle = λ es decoding shares all are. rank_lent f decoding shares n c.ranks.rank (map rank_in work) (map rank_in c.push.new.self.items) states outputs c.take_out.new.state c.take_out.new.output top more (was.idle es decoding shares all are);
    }

pub ranks-preserved : goal.ranks-preserved
ranks-preserved g c =
    let f = g.C.Catalog.view in
    let was = c.ranks.invariant in
    let states = c.ranks.readers.states.items in
    let outputs = c.ranks.readers.outputs.items in
    let n = c.ranks.rank - 1 in
    let some : 0 < c.ranks.rank = c.ranks-test.true in
    let top : c.ranks.rank ≡ suc n = omega (arith, some) in
    let few = was.few in
    let state = c.index_mut-state.result.now in
    let output = c.empty_lists.new.output in
    let asked : (es : List EventView) (shares : ℕ → Share g.C.Catalog.Meaning) → AreJobs es shares c.args.jobs.items (length c.args.readers.now.states.items)
    → (map (job_seen es) c.last_of.new.jobs.items ≡ jobs_by (λ rank. (shares rank).job) n) × IsAsked es None (shares n).job
    = λ es shares are. last_asked es (λ rank. (shares rank).job) n c.ranks.jobs.items c.last_of.new.jobs.items None c.in-None.ensures.items c.in-None.ensures.last
    (was.jobs es shares are ∙ ap (jobs_by (λ rank. (shares rank).job)) top) in
    record {
      few = omega (arith, few);
      count = length-set states n state ∙ was.count;
      outputs = length-set outputs n output ∙ was.outputs;
      ranks = was.ranks;
      front = λ rank other less. get_or-set_other states n rank state other (λ e. absurd (omega (arith, e, less))) ∙ was.front rank other (omega (arith, less));
      jobs = λ es shares are. (asked es shares are).0;
      ready = was.ready;
      idle = λ es decoding shares all are.
          let stands = share_at shares c.args.readers.now.states.items states n c.ranks.rank state top (omega (arith, few)) was.front c.index_mut-state.ensures.value all in
          rank_idle f decoding shares n c.ranks.rank (map rank_in c.ranks.work.items) states outputs state output top
          (idle_done f decoding (shares n) n state output (asked es shares are).1 stands c.empty_lists.ensures.0 c.empty_lists.ensures.1) (was.idle es decoding shares all are);
    }

pub returns-clause-idle : goal.returns-clause-idle
returns-clause-idle g c es decoding shares all are =
    let ranks = map rank_in c.ranks.work.items in
    let end : c.ranks.rank ≤ 0 = c.ranks-test.false in
    fewer g.C.Catalog.view decoding shares (λ rank. (c.ranks.rank ≤ rank) × IsNoneOf ranks rank) (IsNoneOf ranks) c.ranks.readers.states.items c.ranks.readers.outputs.items
    (λ rank none. (omega (arith, end), none)) (c.ranks.invariant.idle es decoding shares all are)
