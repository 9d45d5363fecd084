use Rattle.rtps_frags.proofs.AnyOrder.{any_order}
use Rattle.rtps_frags.proofs.laws.any_order_gives_the_payload.Goals as goal

pub returns : goal.returns
returns c = any_order
