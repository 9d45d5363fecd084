use Rattle.std.proofs.Common.{ap, sym, ◌∙◌}
use Rattle.std.specs.Prelude.{filter}
use Rattle.rtps_discovery.proofs.Taking.{all_others, mine}
use Rattle.rtps_discovery.proofs.leave.forget_readers.Goals as goal

pub returns-clause-left : goal.returns-clause-left
returns-clause-left g c =
    let none = ap (filter (mine c.args.prefix)) c.in_default.ensures.unchanged ∙ c.in_default.ensures.none in
    sym (all_others c.args.prefix c.take_first.new.endpoints.entries none) ∙ c.take_first.ensures.others ∙ c.readers.invariant.others
