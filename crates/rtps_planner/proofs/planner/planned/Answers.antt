use Rattle.std.proofs.Common.{◌≡◌, ◌+◌, ◌++◌, ◌<◌, ◌∙◌, ℕ, None, Option, ap, arith, length, map, refl, subst, sym}
use Rattle.rtps_reader.specs.Notice.{answer_view}
use Rattle.rtps_planner.specs.Job.{discovery_answers, job_of, known_after_all}
use Rattle.rtps_planner.specs.Commuting.{spoken}
use Rattle.rtps_planner.specs.declared.passed_over.PassedOver.{PassedOver}
use Rattle.rtps_planner.specs.declared.steps.Burst.{Burst}
use Rattle.rtps_planner.specs.declared.steps.Planning.{Planning}
use Rattle.rtps_planner.specs.PassedOver.{capped, counts_of, ignored_among, nobody_among, passed_over}
use Rattle.rtps_planner.specs.Plan.{jobs_by, nobody_with}
use Rattle.rtps_planner.specs.Stamped.{all_events, all_occurrences}
use Rattle.rtps_planner.proofs.Whole.{all_steps, reads_itself}
use Rattle.rtps_planner.proofs.planner.planned.Goals as goal

pub returns-clause-planned : goal.returns-clause-planned
returns-clause-planned g c k known =
    let stamped = c.args.stamped.now in
    let es = all_events stamped in
    let os = all_occurrences stamped in
    let empty : Planning g.row.A.Denot = record { lists = c.in_ok-empty_lists.field-0; answers = c.new.result; places = c.new-2.result; passed = c.new-3.result; burst = None } in
    let new = c.plan_all.new.planning in
    let kept = c.plan_all.new.discovery.kept in
    let count : length empty.lists.items ≡ length k.readers = c.in_ok-empty_lists.ensures.count ∙ ap length (c.readers.ensures.known ∙ known.readers) in
    let total : length new.lists.items ≡ length k.readers = c.in_ok-plan_all.ensures.count ∙ count in
    let planned = c.in_ok-plan_all.ensures.planned k es known (reads_itself es) in
    let closed : new.burst ≡ None = c.in_ok-plan_all.ensures.closed in
    let steps = all_steps es k os empty new kept count refl closed
    (λ rank other less. c.in_ok-empty_lists.ensures.empty rank other (subst (λ n. rank < n) c.in_ok-empty_lists.ensures.count less))
    (λ hs reads. c.in_ok-plan_all.ensures.planned k hs known reads) in
    let zero : (n : ℕ) → 0 + n ≡ n = λ n. omega arith in
    let first : c.new-3.result ≡ counts_of 0 0 = c.new-3.ensures in
    let nobody : new.passed.nobody ≡ capped (nobody_among k os)
    = ap (λ (o : Option Burst). nobody_with (known_after_all k os) o new.passed.nobody) (sym closed)
    ∙ planned.nobody tt 0 (ap (λ (p : PassedOver). p.nobody) first)
    ∙ ap capped (zero (nobody_among k os)) in
    let ignored : new.passed.ignored ≡ capped (ignored_among k os)
    = planned.ignored 0 (ap (λ (p : PassedOver). p.ignored) first)
    ∙ ap capped (zero (ignored_among k os)) in
    let counted : new.passed ≡ passed_over k os = ap (λ n. record new.passed { nobody = n }) nobody ∙ ap (λ n. record (passed_over k os) { ignored = n }) ignored in
    record {
      known = planned.known;
      jobs = c.in_ok-plan.ensures.jobs es (λ rank. job_of rank k os) steps ∙ ap (jobs_by (λ rank. job_of rank k os)) total;
      readers = c.in_ok-plan.ensures.readers ∙ total;
      ranks = c.in_ok-plan.ensures.ranks;
      answers = ap (λ v. map answer_view v.items) c.in_ok-plan.ensures.answers ∙ planned.answers ∙ ap (λ l. map answer_view l ++ discovery_answers k os) c.new.ensures.items;
      places = ap (λ v. v.items) c.in_ok-plan.ensures.places ∙ planned.places ∙ ap (λ l. l ++ spoken k os) c.new-2.ensures.items;
      passed = c.in_ok-plan.ensures.passed ∙ counted;
    }
