use Rattle.std.proofs.Common.{◌==◌, ◌∙◌, rules, tests}
use Rattle.std.proofs.lemmas.Iterator.{YieldsList-from_slice}
use Rattle.std.proofs.lemmas.Iterator.Consumers.{YieldsList-from_filter, count_from_yields_List}
use Rattle.rtps_planner.proofs.Judged.{times_of_ranks}
use Rattle.rtps_planner.proofs.outputs.outputs_of.Goals as goal

pub returns : goal.returns
returns g c =
    count_from_yields_List c.filter.result _ c.count.ensures.ran
    (YieldsList-from_filter _ (λ o. o.0 == c.args.rank) (YieldsList-from_slice c.args.outputs.now (cc)) c.filter.ensures.closure (λ x r q k. search (rules, tests)))
    ∙ times_of_ranks c.args.rank c.args.outputs.now
