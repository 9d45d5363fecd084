use Rattle.std.proofs.Common.{◌≡◌, None, rules}
use Rattle.rtps_planner.specs.Outputs.{fault_of, ranks_of}
use Rattle.rtps_planner.proofs.Judged.{refused}
use Rattle.rtps_planner.proofs.Gathering.{gathered}
use Rattle.rtps_planner.proofs.outputs.gather.Goals as goal

pub returns-in_err-by_rank-clause-judged : goal.returns-in_err-by_rank-clause-judged
returns-in_err-by_rank-clause-judged g c =
    let fine : fault_of c.args.rest.ranks.items (ranks_of c.args.outputs.items) ≡ None = search rules in
    refused _ c.from_residual.result fine c.from_residual.ensures.1

pub returns-in_err-new-clause-judged : goal.returns-in_err-new-clause-judged
returns-in_err-new-clause-judged g c =
    let fine : fault_of c.args.rest.ranks.items (ranks_of c.args.outputs.items) ≡ None = search rules in
    refused _ c.from_residual-in_err-new.result fine c.from_residual-in_err-new.ensures.1

pub returns-clause-gathered : goal.returns-clause-gathered
returns-clause-gathered g c =
    let fine : fault_of c.args.rest.ranks.items (ranks_of c.args.outputs.items) ≡ None = search rules in
    gathered c.args.rest c.args.outputs.items c.in_ok-by_rank.by_rank.items c.put_outputs.new.by_rank.items _ fine
    c.in_ok-by_rank.ensures.count c.in_ok-by_rank.ensures.empty c.put_outputs.ensures.put c.in_ok-new.ensures
