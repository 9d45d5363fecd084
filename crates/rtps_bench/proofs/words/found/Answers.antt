use Rattle.std.proofs.Common.{◌∙◌, ap, map, subst}
use Rattle.clap.specs.Words.{App, FailsBy, fault_of, is_simple_and_free}
use Rattle.rtps_bench.proofs.Parsed.{bench_free}
use Rattle.rtps_bench.proofs.words.found.Goals as goal

pub returns-in-Ok-clause-fails : goal.returns-in-Ok-clause-fails
returns-in-Ok-clause-fails g c =
    subst (λ (a : App). FailsBy (fault_of a (map g.S.AsStr.text c.args.words.now)) c.try_get_matches_from.result) c.in-Ok.ensures.0
    (c.try_get_matches_from.ensures.kinds (ap is_simple_and_free c.in-Ok.ensures.0 ∙ bench_free))
