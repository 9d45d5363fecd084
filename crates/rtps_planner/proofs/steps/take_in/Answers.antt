use Rattle.std.proofs.Common.{◌≡◌, ◌-◌, ◌++◌, ◌∙◌, ap, get_or, length, map, rules}
use Rattle.std.specs.Prelude.{◌+◌, vec_len}
use Rattle.rtps_run.proofs.Answered.{on_ok_then}
use Rattle.rtps_planner.specs.Plan.{events_at, steps_seen, taken_in}
use Rattle.rtps_planner.specs.declared.steps.PlannedStep.TheVariants as step
use Rattle.rtps_planner.proofs.Planned.{last_kept, last_more, step_more}
use Rattle.rtps_planner.proofs.steps.take_in.Goals as goal
use Rattle.rtps_planner.proofs.steps.take_in.Goals.{in-Some+else-lengthen, in_default}

pub returns-then-lengthen : goal.returns-then-lengthen
returns-then-lengthen g c = λ es.
    let xs = c.args.steps.now.items in
    let i = vec_len c.args.steps.now - 1 in
    let whole : length xs ≡ i + 1 = search rules in
    let last : get_or xs i c.in-Some.last.now ≡ c.in-Some.last.now = search rules in
    last_more es xs i c.in-Some.last.now c.lengthen.new.step (map taken_in (events_at es c.args.first c.args.more)) whole last (c.lengthen.ensures.longer es c.if-lengthen.true)

pub returns : goal.returns
returns g c = λ es.
    let xs = c.args.steps.now.items in
    let i = vec_len c.args.steps.now - 1 in
    let same : c.match-last_mut.steps.items ≡ xs = elim c.match-last_mut.branch [
      | in-Some+else-lengthen w ↦ ap (λ v. v.items) w.steps-is ∙ last_kept xs i w.in-Some.last.now w.lengthen.new.step (search rules) (w.lengthen.ensures.kept w.if-lengthen.false)
      | in_default w ↦ ap (λ v. v.items) w.steps-is
    ] in
    on_ok_then c.push_step.result
    (λ pushed. ap (steps_seen es) pushed ∙ step_more es c.match-last_mut.steps.items (step.TakeIn c.args.first c.args.more) ∙ ap (λ l. steps_seen es l ++ map taken_in (events_at es c.args.first c.args.more)) same)
    c.push_step.ensures
