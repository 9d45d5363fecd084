use Rattle.rtps_run.specs.Occurrence.{Came, Passes}
use Rattle.std.proofs.Common.{◌∷◌, [], map}
use Rattle.rtps_discovery.specs.Known.{passed}
use Rattle.rtps_run.proofs.Answered.{on_ok_then}
use Rattle.rtps_planner.specs.Stamped.{events_in}
use Rattle.rtps_planner.proofs.Whole.{planned_more}
use Rattle.rtps_planner.proofs.planner.plan_stamped.Goals as goal

pub returns-clause-planned : goal.returns-clause-planned
returns-clause-planned g c = λ k es known reads.
    let s = c.args.stamped.now in
    let moved = c.in_ok-plan_moment.ensures.planned k es known in
    on_ok_then c.plan_events.result
    (λ came. planned_more es k (Passes s.index s.moment ∷ []) (map Came (events_in s)) c.args.planning.now c.plan_moment.new.planning c.plan_events.new.planning
    c.plan_moment.new.discovery.kept c.plan_events.new.discovery.kept tt moved came)
    (c.plan_events.ensures.planned (passed s.moment k) es moved.known reads)
