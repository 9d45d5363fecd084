use Rattle.std.proofs.Common.{◌≡◌, ◌∙◌, ◌∷◌, [], false, rules, sym}
use Rattle.rtps_discovery.specs.Known.{has_expired, moved}
use Rattle.rtps_run.specs.Occurrence.{Passes}
use Rattle.rtps_run.proofs.Answered.{on_ok_then}
use Rattle.rtps_planner.proofs.Going.{none_expired, stays_open}
use Rattle.rtps_planner.proofs.Whole.{planned_more}
use Rattle.rtps_planner.proofs.steps.plan_moment.Goals as goal

pub returns-then-not-is_due-clause-planned : goal.returns-then-not-is_due-clause-planned
returns-then-not-is_due-clause-planned g c = λ k es known.
    let moment = c.args.moment in
    let quiet : has_expired (moved moment k) ≡ false = sym (c.is_due.ensures k known) ∙ search rules in
    stays_open es k c.args.planning.now c.expire.new.self.kept c.args.index moment (none_expired (moved moment k) quiet) (c.in_ok-_none.ensures.known k known)

pub returns-clause-planned : goal.returns-clause-planned
returns-clause-planned g c = λ k es known.
    let index = c.args.index in
    let moment = c.args.moment in
    let closed = c.in_ok-close.ensures.planned k es known in
    on_ok_then c.end_matches.result
    (λ ended. planned_more es k [] (Passes index moment ∷ []) c.args.planning.now c.close.new.planning c.end_matches.new.planning _ _ tt closed ended)
    (c.end_matches.ensures.planned k es known)
