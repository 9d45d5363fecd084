use Rattle.std.proofs.Common.{◌≡◌, ◌<◌, ◌+◌, ◌++◌, ◌∙◌, [], ap, append-nil, arith, get_or, length, refl, rules, subst, sym, take}
use Rattle.std.proofs.lemmas.List.{length-map, take_all}
use Rattle.rtps_receiver.specs.Events.{view}
use Rattle.rtps_run.proofs.Answered.{on_ok_then}
use Rattle.rtps_planner.specs.Job.{known_after_all}
use Rattle.rtps_planner.specs.Plan.{EndsAt, IsPlanned, ReadsAs}
use Rattle.rtps_planner.specs.Stamped.{all_occurrences, events_in, occurrences_in}
use Rattle.rtps_planner.proofs.Stamping.{events_next, occurrences_next, reads_stamped, stamped_steady}
use Rattle.rtps_planner.proofs.Whole.{planned_more, planned_none}
use Rattle.rtps_planner.proofs.planner.plan_all.Goals as goal

pub loop-one-init : goal.loop-one-init
loop-one-init g c = record {
  count = search rules;
  ends = c.requires;
  first = refl;
  unspent = λ fresh. fresh;
  planned = λ k es known reads. planned_none es k c.args.planning.now c.args.discovery.now.kept known;
}

pub loop-one-preserved : goal.loop-one-preserved
loop-one-preserved g c =
    let i = c.loop-one.one-index in
    let stamped = c.args.stamped.now in
    let one = c.one-item.result in
    let less : i < length stamped = search rules in
    let read : get_or stamped i one ≡ one = search rules in
    let before = take i stamped in
    let first = c.loop-one.first in
    let old = c.args.planning.now in
    let mid = c.loop-one.planning in
    let new = c.plan_stamped.new.planning in
    let kept = c.plan_stamped.new.discovery.kept in
    let sum : first + length one.events.now ≡ c.in-Some.next = search rules in
    let here : length (events_in (get_or stamped i one)) ≡ length one.events.now = ap (λ s. length (events_in s)) read ∙ length-map one.events.now view in
    record {
      count = c.in_ok-plan_stamped.ensures.count ∙ c.loop-one.invariant.count;
      ends = subst (EndsAt new.burst) sum c.in_ok-plan_stamped.ensures.ends;
      first = omega (arith, sum, events_next stamped i one less, here, c.loop-one.invariant.first);
      unspent = λ fresh. c.in_ok-plan_stamped.ensures.ok;
      planned = λ k es known reads.
          let was = c.loop-one.invariant.planned k es known reads in
          let here : ReadsAs (events_in one) es first = subst (λ s. ReadsAs (events_in s) es first) read (reads_stamped stamped es i one first less c.loop-one.invariant.first reads) in
          let more = c.in_ok-plan_stamped.ensures.planned (known_after_all k (all_occurrences before)) es was.known here in
          subst (λ os. IsPlanned es k os old new kept) (sym (occurrences_next stamped i one less ∙ ap (λ s. all_occurrences before ++ occurrences_in s) read))
          (planned_more es k (all_occurrences before) (occurrences_in one) old mid new c.loop-one.discovery.kept kept (stamped_steady before) was more);
    }

pub returns-clause-count : goal.returns-clause-count
returns-clause-count g c = on_ok_then c.close.result (λ same. same ∙ c.loop-one.invariant.count) c.close.ensures.count

pub returns-clause-planned : goal.returns-clause-planned
returns-clause-planned g c = λ k es known reads.
    let stamped = c.args.stamped.now in
    let kept = c.loop-one.discovery.kept in
    let os = all_occurrences stamped in
    let whole : take c.loop-one.one-index stamped ≡ stamped = take_all c.loop-one.one-index stamped (omega (arith, c.loop-one-test.false)) in
    let was = subst (λ l. IsPlanned es k (all_occurrences l) c.args.planning.now c.loop-one.planning kept) whole (c.loop-one.invariant.planned k es known reads) in
    on_ok_then c.close.result
    (λ closed. subst (λ l. IsPlanned es k l c.args.planning.now c.close.new.planning kept) (append-nil os)
    (planned_more es k os [] c.args.planning.now c.loop-one.planning c.close.new.planning kept kept (stamped_steady stamped) was closed))
    (c.close.ensures.planned (known_after_all k os) es was.known)
