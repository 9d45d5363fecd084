use Rattle.std.proofs.Common.{refl, rules}
use Rattle.rtps_udp.proofs.Receiving.{holds_filled, holds_refused}
use Rattle.rtps_udp.proofs.sockets.Sockets.fill.Goals as goal

pub returns-in-Ok-Fault-clause-holds : goal.returns-in-Ok-Fault-clause-holds
returns-in-Ok-Fault-clause-holds g c = holds_filled _ _ _ _ _ c.in-Ok-Fault.ensures.receives

pub returns-in-Ok : goal.returns-in-Ok
returns-in-Ok g c = record {
  fills = record {
    sound = search rules;
    full = c.in-Ok.ensures.full;
    receives = c.in-Ok.ensures.receives;
  };
  holds = holds_filled _ _ _ _ _ c.in-Ok.ensures.receives;
  few = c.receive.ensures.few;
  moment = refl;
  same = refl;
  fault = tt;
}

pub returns-in-Err-clause-holds : goal.returns-in-Err-clause-holds
returns-in-Err-clause-holds g c = holds_refused _ _ _ _ c.in-Err.ensures.stops
