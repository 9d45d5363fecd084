use Rattle.std.proofs.Common.{◌≡◌, ◌∙◌, [], ap, length, rules, sym}
use Rattle.std.proofs.lemmas.List.{nil_from_length}
use Rattle.rtps_planner.specs.Outputs.{outputs_with}
use Rattle.rtps_planner.proofs.Judged.{count_with}
use Rattle.rtps_planner.proofs.outputs.put_outputs.Goals as goal

pub returns-clause-count : goal.returns-clause-count
returns-clause-count g c =
    let steps = c.in-None.ensures.steps in
    let none : c.loop-rank.rank-iterator.rest.items ≡ [] = nil_from_length c.loop-rank.rank-iterator.rest.items (search rules) in
    ap length (sym (ap (outputs_with c.loop-rank.by_rank.items) none) ∙ c.loop-rank.invariant) ∙ count_with c.args.by_rank.now.items c.args.outputs.items
