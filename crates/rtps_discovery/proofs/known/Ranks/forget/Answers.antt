use Rattle.std.proofs.Common.{rules, ap, ◌∙◌}
use Rattle.std.proofs.lemmas.Fn.{filter_same}
use Rattle.rtps_discovery.specs.Moving.{without_rank}
use Rattle.rtps_discovery.proofs.known.Ranks.forget.Goals as goal

pub returns-clause-left : goal.returns-clause-left
returns-clause-left g c = filter_same _ _ _ (λ x b f' k. search rules) _ _ c.retain.ensures.filtered ∙ ap (without_rank c.args.rank) c.self.view_is
