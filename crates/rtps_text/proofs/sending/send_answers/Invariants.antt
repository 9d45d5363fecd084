use Rattle.std.proofs.Common.{◌≡◌, ◌++◌, map}
use Rattle.rtps_records.specs.Traffic.{Grows}
use Rattle.rtps_run.specs.Order.{report_of}
use Rattle.rtps_text.specs.Sending.{sendings, sends_of}
use Rattle.rtps_text.proofs.sending.send_answers.Given as goal

abbrev pub invariant-loop-item : goal.invariant-loop-item
invariant-loop-item g l = record {
  grows : Grows (g.N.Receive.traffic l.fn.network) (g.N.Receive.traffic l.network)
      (sendings (sends_of (map report_of l.yielded)));
  speech : g.N.Receive.speech l.network ≡ g.N.Receive.speech l.fn.network;
  all : l.initial.item-iterator ≡ map report_of l.yielded ++ l.item-iterator;
}
