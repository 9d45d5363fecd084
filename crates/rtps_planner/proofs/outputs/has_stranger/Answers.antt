use Rattle.std.proofs.Common.{◌∙◌, not, rules, tests}
use Rattle.std.proofs.lemmas.Iterator.{YieldsList-from_slice}
use Rattle.std.proofs.lemmas.Iterator.Search.{any_from_yields_List}
use Rattle.rtps_planner.specs.Outputs.{is_among}
use Rattle.rtps_planner.proofs.Judged.{any_of_ranks}
use Rattle.rtps_planner.proofs.outputs.has_stranger.Goals as goal

pub returns : goal.returns
returns g c =
    any_from_yields_List (λ o. not (is_among c.args.planned.now o.0)) _ _ _ c.any.ensures.ran (YieldsList-from_slice c.args.outputs.now (cc)) (λ x b q k. search (rules, tests))
    ∙ any_of_ranks (λ rank. not (is_among c.args.planned.now rank)) c.args.outputs.now
