use Rattle.std.proofs.Common.{◌≡◌, ◌<◌, get_or, length, map, rules}
use Rattle.rtps_run.proofs.Answered.{on_ok_then}
use Rattle.rtps_planner.specs.Plan.{events_at, taken_in}
use Rattle.rtps_planner.proofs.Planned.{grow_at}
use Rattle.rtps_planner.proofs.steps.take_in_at.Goals as goal

pub returns-in-Some : goal.returns-in-Some
returns-in-Some g c = λ es.
    let lists = c.args.lists.now.items in
    let i = c.args.rank in
    let inside : i < length lists = search rules in
    let is : get_or lists i c.in-Some.steps.now ≡ c.in-Some.steps.now = search rules in
    on_ok_then c.take_in.result
    (λ more. grow_at es lists i c.in-Some.steps.now c.take_in.new.steps (map taken_in (events_at es c.args.burst.first c.args.burst.more)) inside is more)
    (c.take_in.ensures es)
