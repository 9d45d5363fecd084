use Rattle.std.proofs.Common.{◌≡◌, ◌<◌, ◌++◌, ◌∙◌, ap, arith, get_or, length, rules, subst, sym, take}
use Rattle.std.specs.List.{flat_map}
use Rattle.dds_topic.specs.ShapeMeaning.{shape_decoding}
use Rattle.dds_topic.specs.declared.shapes.Shapes.{Shapes}
use Rattle.rtps_discovery.specs.declared.config.Config.{Config}
use Rattle.rtps_records.specs.Batches.{records_in}
use Rattle.rtps_bench.specs.Counting.{HasCounted, counts_of}
use Rattle.rtps_bench.proofs.Counted.{records_all, records_more}
use Rattle.rtps_bench.proofs.running.run_all.Goals as goal

pub loop-batch-init : goal.loop-batch-init
loop-batch-init g c = record { config = c.in_ok-run.ensures.same.1; counted = c.in_ok-run.ensures.counted }

pub take-requires-clause-alone : goal.take-requires-clause-alone
take-requires-clause-alone g c κs within = c.loop-batch.invariant.counted.alone

pub loop-batch-preserved : goal.loop-batch-preserved
loop-batch-preserved g c =
    let i = c.loop-batch.batch-index in
    let batches = c.args.batches.now in
    let one = c.batch-item.result in
    let less : i < length batches = search rules in
    let read : get_or batches i one ≡ one = search rules in
    let before = flat_map records_in (take i batches) in
    record {
      config = c.take.ensures.same.1 ∙ c.loop-batch.invariant.config;
      counted = subst (λ records. HasCounted (λ (catalog : Shapes). shape_decoding) records c.take.new.self.participant c.take.new.self.answers)
          (ap (λ batch. before ++ records_in batch) (sym read) ∙ records_more batches i one less)
          (c.in_ok-take.ensures.counted before c.loop-batch.invariant.counted);
    }

pub returns : goal.returns
returns g c =
    let batches = c.args.batches.now in
    let whole = records_all batches c.loop-batch.batch-index (omega (arith, c.loop-batch-test.false)) in
    c.counts.ensures _ c.loop-batch.invariant.counted
    ∙ ap (λ (config : Config). counts_of shape_decoding config (flat_map records_in (take c.loop-batch.batch-index batches))) c.loop-batch.invariant.config
    ∙ ap (counts_of shape_decoding c.args.config) whole
