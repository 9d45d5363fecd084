use Rattle.std.proofs.Common.{◌∷◌, [], refl}
use Rattle.rtps_receiver.specs.Events.{view}
use Rattle.rtps_run.specs.Occurrence.{Came}
use Rattle.rtps_planner.proofs.Going.{opens}
use Rattle.rtps_planner.proofs.Whole.{planned_more}
use Rattle.rtps_planner.proofs.steps.open_burst.Goals as goal

pub returns-clause-planned : goal.returns-clause-planned
returns-clause-planned g c = λ k es known others reads.
    let e = view c.args.event.now in
    let closed = c.in_ok-close.ensures.planned k es known in
    planned_more es k [] (Came e ∷ []) c.args.planning.now c.close.new.planning _ _ _ tt closed
    (opens es k c.close.new.planning _ c.args.discovery.now.kept e _ c.args.first c.close.ensures.closed refl refl refl known others reads refl c.in_ok-push.ensures.items refl)
