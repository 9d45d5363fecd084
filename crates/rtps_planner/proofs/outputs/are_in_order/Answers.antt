use Rattle.std.proofs.Common.{rules, tests}
use Rattle.rtps_planner.proofs.Rising.{all_right, one_more}
use Rattle.rtps_planner.proofs.outputs.are_in_order.Goals as goal

pub loop-at-preserved : goal.loop-at-preserved
loop-at-preserved g c = one_more c.args.planned.now c.args.outputs.now c.loop-at.at c.loop-at.least c.from-least.result c.index-outputs-at.result c.loop-at.invariant (search rules) (search rules) (search (rules, tests)) (search (rules, tests))

pub returns : goal.returns
returns g c = λ _. all_right c.args.planned.now c.args.outputs.now c.loop-at.at c.loop-at.least c.loop-at.invariant (search rules)
