use Rattle.rtps_serial.proofs.InOrder.{run_in_order}
use Rattle.rtps_serial.proofs.laws.in_order.Goals as goal

pub returns : goal.returns
returns g c = λ view decoding config inputs batch outcome reports batched adds ordered. run_in_order view decoding config inputs batch outcome reports batched adds ordered
