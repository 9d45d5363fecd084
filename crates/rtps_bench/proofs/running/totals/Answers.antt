use Rattle.std.proofs.Common.{◌≡◌, ◌<◌, ◌∙◌, ap, arith, length, rules}
use Rattle.rtps_reader.specs.declared.status.Status.{Status}
use Rattle.rtps_run.specs.Seen.{reader_count}
use Rattle.rtps_bench.specs.Counting.{totals_below}
use Rattle.rtps_bench.specs.Inputs.{inputs_of, run_by}
use Rattle.rtps_bench.proofs.Counted.{totals_more}
use Rattle.rtps_bench.proofs.running.totals.Goals as goal

pub loop-rank-preserved : goal.loop-rank-preserved
loop-rank-preserved g c = record {
  samples = λ records stands.
      totals_more (λ (s : Status). s.samples) (run_by g.C.Catalog.decoding c.args.participant.now.engine records) c.loop-rank.rank c.status-status.result _ _
      (c.status-status.ensures (inputs_of records) stands.shows) c.samples_in-samples.ensures.value (c.loop-rank.invariant.samples records stands);
  lost = λ records stands.
      totals_more (λ (s : Status). s.lost_total) (run_by g.C.Catalog.decoding c.args.participant.now.engine records) c.loop-rank.rank c.status-status.result _ _
      (c.status-status.ensures (inputs_of records) stands.shows) c.lost_in-lost.ensures.value (c.loop-rank.invariant.lost records stands);
  few_samples = omega (arith, c.samples_in-samples.ensures.fits, c.loop-rank.invariant.few_samples);
  few_lost = omega (arith, c.lost_in-lost.ensures.fits, c.loop-rank.invariant.few_lost);
}

pub returns-clause-samples : goal.returns-clause-samples
returns-clause-samples g c records stands =
    let world = run_by g.C.Catalog.decoding c.args.participant.now.engine records in
    let ended : c.loop-rank.rank ≡ length c.args.participant.now.engine.statuses = search rules in
    c.loop-rank.invariant.samples records stands ∙ ap (totals_below (λ (s : Status). s.samples) world) (ended ∙ stands.shows.count)

pub returns-clause-lost : goal.returns-clause-lost
returns-clause-lost g c records stands =
    let world = run_by g.C.Catalog.decoding c.args.participant.now.engine records in
    let ended : c.loop-rank.rank ≡ length c.args.participant.now.engine.statuses = search rules in
    c.loop-rank.invariant.lost records stands ∙ ap (totals_below (λ (s : Status). s.lost_total) world) (ended ∙ stands.shows.count)
