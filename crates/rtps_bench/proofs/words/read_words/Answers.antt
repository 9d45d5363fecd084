use Rattle.std.proofs.Common.{subst}
use Rattle.rtps_bench.proofs.Parsed.{bench_simple}
use Rattle.rtps_bench.specs.Options.{AreOptions}
use Rattle.rtps_bench.proofs.words.read_words.Goals as goal

pub returns-in-Ok-clause-options : goal.returns-in-Ok-clause-options
returns-in-Ok-clause-options g c =
    subst (AreOptions c.options_in.result) (c.in-Ok.ensures.matches bench_simple).0 c.options_in.ensures
