use Rattle.std.proofs.Common.{rules, sym}
use Rattle.rtps_types.proofs.Decimals.{decimal_refused}
use Rattle.rtps_types.proofs.text.numbers.read_decimal.Goals as goal

pub returns-in_default : goal.returns-in_default
returns-in_default c =
    sym (decimal_refused c.args.least c.args.greatest c.args.text.now c.in_default.field-0 (search rules) (search rules) (search rules))
