use Rattle.std.proofs.Common.{◌∷◌, []}
use Rattle.rtps_receiver.specs.Events.{view}
use Rattle.rtps_run.specs.Occurrence.{Came}
use Rattle.rtps_run.proofs.Answered.{on_ok_then}
use Rattle.rtps_planner.proofs.Whole.{planned_more}
use Rattle.rtps_planner.proofs.steps.plan_announcement.Goals as goal

pub returns-clause-planned : goal.returns-clause-planned
returns-clause-planned g c = λ k es known is.
    let closed = c.in_ok-close.ensures.planned k es known in
    on_ok_then c.announce.result
    (λ heard. planned_more es k [] (Came (view c.args.event.now) ∷ []) c.args.planning.now c.close.new.planning c.announce.new.planning _ _ tt closed heard)
    (c.announce.ensures.planned k es known is)
