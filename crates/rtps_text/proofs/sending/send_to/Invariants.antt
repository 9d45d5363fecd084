use Rattle.std.proofs.Common.{◌≡◌, take}
use Rattle.rtps_records.specs.Traffic.{Grows}
use Rattle.rtps_text.specs.Sending.{sendings, to_each}
use Rattle.rtps_text.proofs.sending.send_to.Given as goal

abbrev pub invariant-loop-locator : goal.invariant-loop-locator
invariant-loop-locator g l = record {
  grows : Grows (g.N.Receive.traffic l.fn.network) (g.N.Receive.traffic l.network)
      (sendings (to_each (take l.locator-index l.to) l.octets));
  speech : g.N.Receive.speech l.network ≡ g.N.Receive.speech l.fn.network;
}
