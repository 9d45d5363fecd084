use Rattle.std.proofs.Common.{◌≡◌, ◌-◌, ◌≤◌, None, length}
use Rattle.rtps_records.specs.Batches.{HasRead, records_in}
use Rattle.rtps_records.proofs.records.Records.next_batch.Given as goal

abbrev pub invariant-loop-batch : goal.invariant-loop-batch
invariant-loop-batch g l = record {
  same_reader : l.self.reader.ghost_name ≡ l.fn.self.reader.ghost_name;
  same_format : l.self.format ≡ l.fn.self.format;
  datagrams : l.batch.tick ≡ None;
  few : length (records_in l.batch) ≤ l.most;
  so_far : HasRead l.fn.self.format (g.R.Read.remaining l.fn.self.reader.now) (g.R.Read.remaining l.self.reader.now) l.fn.self.count l.self.count (records_in l.batch);
}

abbrev pub decreases-loop-batch : goal.decreases-loop-batch
decreases-loop-batch g l = l.most - length (records_in l.batch)
