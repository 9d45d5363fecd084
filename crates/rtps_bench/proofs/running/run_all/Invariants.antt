use Rattle.std.proofs.Common.{◌≡◌, take}
use Rattle.std.specs.List.{flat_map}
use Rattle.dds_topic.specs.ShapeMeaning.{shape_decoding}
use Rattle.dds_topic.specs.declared.shapes.Shapes.{Shapes}
use Rattle.rtps_records.specs.Batches.{records_in}
use Rattle.rtps_bench.specs.Counting.{HasCounted}
use Rattle.rtps_bench.proofs.running.run_all.Given as goal

-- the batches so far were taken and counted
abbrev pub invariant-loop-batch : goal.invariant-loop-batch
invariant-loop-batch g l = record {
  config : l.run.participant.engine.config ≡ l.fn.config;
  counted : HasCounted (λ (catalog : Shapes). shape_decoding) (flat_map records_in (take l.batch-index l.batches)) l.run.participant l.run.answers;
}
