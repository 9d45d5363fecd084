use Rattle.rtps_cdr.proofs.Padding.{padding_least}
use Rattle.rtps_cdr.proofs.laws.padding_is_the_least_gap.Goals as goal

pub returns : goal.returns
returns c = padding_least
