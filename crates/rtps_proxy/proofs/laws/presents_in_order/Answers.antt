use Rattle.rtps_proxy.proofs.Presenting.{presented_rises, ready_brought, ready_passes_over}
use Rattle.rtps_proxy.proofs.laws.presents_in_order.Goals as goal

pub returns : goal.returns
returns c = record { rising = presented_rises; received = ready_brought; passed_over = ready_passes_over }
