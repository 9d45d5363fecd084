use Rattle.std.proofs.Common.{◌≡◌, ◌≤◌, ◌+◌, ◌-◌, ◌++◌, ◌∙◌, ap, arith, length, map, rules, subst, sym, take}
use Rattle.std.specs.Prelude.{drop}
use Rattle.std.proofs.Math.Seq.{take-add}
use Rattle.std.proofs.lemmas.List.{drop-map, length-drop, length-map, length-take, map-append, take_all, take_rest}
use Rattle.rtps_receiver.specs.Events.{view}
use Rattle.rtps_run.specs.Occurrence.{Came}
use Rattle.rtps_run.proofs.Heads.{events_steady}
use Rattle.rtps_planner.specs.Job.{known_after_all}
use Rattle.rtps_planner.specs.Plan.{EndsAt, IsPlanned, ReadsAs}
use Rattle.rtps_planner.proofs.Stamping.{reads_next}
use Rattle.rtps_planner.proofs.Whole.{planned_more, planned_none}
use Rattle.rtps_planner.proofs.planner.plan_events.Goals as goal

pub loop-at-init : goal.loop-at-init
loop-at-init g c = record {
  count = search rules;
  within = omega arith;
  ends = subst (EndsAt c.args.planning.now.burst) (omega arith) c.requires.ends;
  unspent = λ fresh. fresh;
  planned = λ k es known reads. planned_none es k c.args.planning.now c.args.discovery.now.kept known;
}

pub loop-at-preserved : goal.loop-at-preserved
loop-at-preserved g c =
    let i = c.loop-at.at in
    let n = c.in_ok-at.field-0 in
    let items = c.args.events.now in
    let all = map view items in
    let old = c.args.planning.now in
    let mid = c.loop-at.planning in
    let new = c.plan_next.new.planning in
    let fits = c.in_ok-at.ensures.within in
    let rest : map view (take (length items - i) (drop i items)) ≡ drop i all = ap (map view) (take_rest items i) ∙ sym (drop-map view i items) in
    record {
      count = c.in_ok-at.ensures.count ∙ c.loop-at.invariant.count;
      within = search rules;
      ends = subst (EndsAt new.burst) (omega arith) c.in_ok-at.ensures.ends;
      unspent = λ fresh. c.in_ok-at.ensures.ok (c.loop-at.invariant.unspent fresh);
      planned = λ k es known reads.
          let before = take i all in
          let run = take n (drop i all) in
          let was = c.loop-at.invariant.planned k es known reads in
          let more = c.in_ok-at.ensures.planned (known_after_all k (map Came before)) es was.known in
          let within : i + n ≤ length all = omega (arith, fits.1, length-take (length items - i) (drop i items), length-drop i items, length-map items view, c.loop-at.invariant.within, c.loop-at-test.true) in
          let both : map Came (take (i + n) all) ≡ map Came before ++ map Came run = ap (map Came) (take-add i n all) ∙ map-append Came before run in
          subst (λ os. IsPlanned es k os old new c.plan_next.new.discovery.kept) (sym both)
          (planned_more es k (map Came before) (map Came run) old mid new c.loop-at.discovery.kept c.plan_next.new.discovery.kept (events_steady before) was
          (subst (λ l. IsPlanned es (known_after_all k (map Came before)) (map Came (take n l)) mid new c.plan_next.new.discovery.kept) rest
          (more (subst (λ l. ReadsAs (take n l) es (c.args.first + i)) (sym rest) (reads_next all es c.args.first i n reads within)))));
    }

pub returns-clause-planned : goal.returns-clause-planned
returns-clause-planned g c = λ k es known reads.
    let all = map view c.args.events.now in
    let whole : take c.loop-at.at all ≡ all = take_all c.loop-at.at all (omega (arith, c.loop-at-test.false, length-map c.args.events.now view)) in
    subst (λ l. IsPlanned es k (map Came l) c.args.planning.now c.loop-at.planning c.loop-at.discovery.kept) whole (c.loop-at.invariant.planned k es known reads)
