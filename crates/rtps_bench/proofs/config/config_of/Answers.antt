use Rattle.std.proofs.Common.{◌∙◌, ap, inr, is_err, sym}
use Rattle.rtps_bench.proofs.config.config_of.Goals as goal

pub returns-in-Err-check-clause-cause : goal.returns-in-Err-check-clause-cause
returns-in-Err-check-clause-cause c = inr
    (c.in-Ok-config_with.config, (c.in-Ok.writer, c.in-Ok.ensures.value, c.in-Ok-config_with.ensures), ap is_err (sym c.check.ensures.checked ∙ c.in-Err-check.is))
