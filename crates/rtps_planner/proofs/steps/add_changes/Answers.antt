use Rattle.std.proofs.Common.{◌≡◌, ◌++◌, ◌∙◌, ◌∷◌, [], append-nil, append_assoc, ap, refl, rules, if◌then◌else◌, ◌==◌, subst, sym}
use Rattle.std.proofs.lemmas.List.{nil_from_length}
use Rattle.rtps_planner.specs.declared.steps.PlannedStep.{PlannedStep}
use Rattle.rtps_planner.specs.declared.steps.PlannedStep.TheVariants as step
use Rattle.rtps_planner.specs.Plan.{Grow, step_seen}
use Rattle.rtps_planner.proofs.Planned.{change_more, changes_asked_at, grow_more, grow_not}
use Rattle.rtps_planner.proofs.steps.add_changes.Goals as goal

pub loop-change-init : goal.loop-change-init
loop-change-init g c = record {
  grows = λ es. grow_not es c.args.lists.now.items _ (λ rank. refl);
  left = search rules;
}

pub loop-change-preserved : goal.loop-change-preserved
loop-change-preserved g c =
    let old = c.args.lists.now.items in
    let mid = c.loop-change.lists.items in
    let new = c.add_step.new.lists.items in
    let place = c.args.place in
    let change = c.in-Some.change in
    let done = c.loop-change.yielded in
    let taken : c.loop-change.change-iterator.rest.items ≡ change ∷ c.next.new.self.rest.items = search rules in
    record {
      grows = λ es.
          let step : PlannedStep g.row.A.Denot = step.Change place change.what in
          grow_more es old mid new (changes_asked_at place done) (λ at. if change.rank == at then step_seen es step else []) (changes_asked_at place (done ++ change ∷ []))
          (λ rank. change_more es place done change rank) (c.loop-change.invariant.grows es) (c.in_ok-add_step.ensures es);
      left = c.loop-change.invariant.left ∙ ap (λ l. done ++ l) taken ∙ sym (append_assoc done (change ∷ []) c.next.new.self.rest.items);
    }

pub returns : goal.returns
returns g c =
    let steps = c.in-None.ensures.steps in
    let none : c.loop-change.change-iterator.rest.items ≡ [] = nil_from_length c.loop-change.change-iterator.rest.items (search rules) in
    let all : c.loop-change.yielded ≡ c.args.changes.items = sym (c.loop-change.invariant.left ∙ ap (λ l. c.loop-change.yielded ++ l) none ∙ append-nil c.loop-change.yielded) in
    λ es. subst (λ l. Grow es c.args.lists.now.items c.loop-change.lists.items (changes_asked_at c.args.place l)) all (c.loop-change.invariant.grows es)
