use Rattle.std.proofs.Common.{◌≡◌}
use Rattle.std.specs.List.{flat_map}
use Rattle.rtps_records.specs.Batches.{records_in}
use Rattle.rtps_bench.specs.Reading.{AreFew}
use Rattle.rtps_bench.proofs.Holding.{IsHolding, left_of}
use Rattle.rtps_bench.proofs.reading.read_all.Given as goal

abbrev pub invariant-loop-end : goal.invariant-loop-end
invariant-loop-end g l = record {
  same_reader : l.records.reader.ghost_name ≡ l.fn.records.reader.ghost_name;
  holding : IsHolding l.records.format l.end (g.R.Read.remaining l.fn.records.reader.now) (g.R.Read.remaining l.records.reader.now) l.records.count
      (flat_map records_in l.batches.items);
  few : AreFew l.batches.items;
}

abbrev pub decreases-loop-end : goal.decreases-loop-end
decreases-loop-end g l = left_of l.end l.records.count
