use Rattle.std.proofs.Common.{◌≡◌, ◌+◌, ◌-◌, ◌∙◌, ◌++◌, ap, arith, map, rules, sym}
use Rattle.rtps_planner.specs.Plan.{events_at, step_seen, taken_in}
use Rattle.rtps_planner.proofs.Planned.{takes_more}
use Rattle.rtps_planner.proofs.steps.lengthen.Goals as goal

pub returns-in-Some-clause-longer : goal.returns-in-Some-clause-longer
returns-in-Some-clause-longer g c = λ es yes.
    let from = c.in-TakeIn.from in
    let count = c.in-TakeIn.count in
    let at : c.args.first ≡ from + (count + 1) = omega (arith, c.if-first-from.false, c.if-first-from-2.false) in
    let sum : c.in-Some.longer ≡ c.args.first - from + c.args.more = search rules in
    let long : c.in-Some.longer ≡ count + (c.args.more + 1) = omega (arith, at, sum) in
    ap (λ n. map taken_in (events_at es from n)) long
    ∙ takes_more es from count c.args.first c.args.more at
    ∙ ap (λ s. step_seen es s ++ map taken_in (events_at es c.args.first c.args.more)) (sym c.in-TakeIn.is)
