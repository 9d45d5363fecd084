use Rattle.std.proofs.Common.{◌≡◌}
use Rattle.rtps_planner.specs.Outputs.{outputs_with}
use Rattle.rtps_planner.proofs.outputs.put_outputs.Given as goal

-- what was put, with the outputs that are left, is all of them
abbrev pub invariant-loop-rank : goal.invariant-loop-rank
invariant-loop-rank g l = outputs_with l.by_rank.items l.rank-iterator.rest.items ≡ outputs_with l.fn.by_rank.items l.fn.outputs.items
