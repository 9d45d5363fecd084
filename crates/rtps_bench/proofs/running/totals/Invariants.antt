use Rattle.std.proofs.Common.{◌≡◌, ◌≤◌, ◌*◌, List}
use Rattle.rtps_reader.specs.declared.status.Status.{Status}
use Rattle.rtps_records.specs.RecordFile.{Record}
use Rattle.rtps_bench.specs.Counting.{totals_below}
use Rattle.rtps_bench.specs.Inputs.{StandsAt, run_by}
use Rattle.rtps_bench.proofs.running.totals.Given as goal

-- the sums so far are those of the ranks so far, each of which has 32 bits
abbrev pub invariant-loop-rank : goal.invariant-loop-rank
invariant-loop-rank g l = record {
  samples : (records : List Record) → StandsAt g.C.Catalog.decoding records l.participant.engine
      → l.samples ≡ totals_below (λ (s : Status). s.samples) (run_by g.C.Catalog.decoding l.participant.engine records) l.rank;
  lost : (records : List Record) → StandsAt g.C.Catalog.decoding records l.participant.engine
      → l.lost ≡ totals_below (λ (s : Status). s.lost_total) (run_by g.C.Catalog.decoding l.participant.engine records) l.rank;
  few_samples : l.samples ≤ l.rank * 4294967295;
  few_lost : l.lost ≤ l.rank * 4294967295;
}
