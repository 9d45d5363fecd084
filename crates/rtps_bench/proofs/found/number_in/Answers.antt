use Rattle.std.proofs.Common.{◌∙◌}
use Rattle.std.specs.Str.Parse.{ExplainsUnsignedError, HasUnsignedDigitsIfOk, ParsesUnsigned}
use Rattle.clap.specs.Words.{found_of}
use Rattle.rtps_bench.proofs.Parsed.{number_read}
use Rattle.rtps_bench.proofs.found.number_in.Goals as goal

pub returns : goal.returns
returns c =
    c.unwrap_or.ensures
    ∙ number_read _ (λ t r. ParsesUnsigned 32 10 t r × ExplainsUnsignedError 10 t r × HasUnsignedDigitsIfOk t r) (λ t r given. given.0)
    (found_of c.args.matches.now) c.args.name.now c.get_one.result c.get_one.ensures.none c.get_one.ensures.value
