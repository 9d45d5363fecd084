use Rattle.std.proofs.Common.{arith}
use Rattle.std.proofs.lemmas.Grind.{common_steps}
use Rattle.rtps_types.proofs.Puts.{puts_outside}
use Rattle.rtps_types.proofs.field.put_octets.Goals as goal

pub returns-clause-others_stay : goal.returns-clause-others_stay
returns-clause-others_stay c = puts_outside _ _ _ _ (grind (arith, common_steps)) c.requires
