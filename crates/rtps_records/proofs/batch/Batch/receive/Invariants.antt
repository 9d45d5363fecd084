use Rattle.std.proofs.Common.{◌≡◌, ◌-◌, ◌≤◌, [], None, length}
use Rattle.rtps_records.specs.Batches.{records_in}
use Rattle.rtps_records.specs.Traffic.{ReceivesAll}
use Rattle.rtps_records.proofs.batch.Batch.receive.Given as goal

abbrev pub invariant-loop-self : goal.invariant-loop-self
invariant-loop-self g l = record {
  datagrams : l.self.tick ≡ None;
  few : length (records_in l.self) ≤ l.most;
  speech : g.S.Receive.speech l.source ≡ g.S.Receive.speech l.fn.source;
  so_far : ReceivesAll (g.S.Receive.traffic l.fn.source) (g.S.Receive.traffic l.source) l.moment (records_in l.self) [];
}

abbrev pub decreases-loop-self : goal.decreases-loop-self
decreases-loop-self g l = l.most - length (records_in l.self)
