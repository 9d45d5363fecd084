use Rattle.std.proofs.Common.{◌≡◌, Global, List, inr, rules, subst}
use Rattle.std.proofs.KnownBytes.{Keeps-refl}
use Rattle.std.specs.List.{flat_map}
use Rattle.rtps_records.specs.Batches.{records_in}
use Rattle.rtps_records.specs.declared.batch.Batch.{Batch}
use Rattle.rtps_bench.specs.Measuring.{AreCountsOf}
use Rattle.rtps_bench.proofs.Written.{file_fault, run_fault, wrote_counts}
use Rattle.rtps_bench.proofs.program.run.Goals as goal

pub returns-in-Err-clause-fault : goal.returns-in-Err-clause-fault
returns-in-Err-clause-fault g c = file_fault c.args.options.now _ c.in-Err.fault c.in-Err.ensures.fault

pub returns-in-Err-clause-keeps : goal.returns-in-Err-clause-keeps
returns-in-Err-clause-keeps g c = inr (Keeps-refl _)

pub returns-in-Err-measure-clause-fault : goal.returns-in-Err-measure-clause-fault
returns-in-Err-measure-clause-fault g c = run_fault c.args.options.now _ c.in-Err-measure.fault c.in-Err-measure.ensures.fault

pub returns-in-Err-measure-clause-keeps : goal.returns-in-Err-measure-clause-keeps
returns-in-Err-measure-clause-keeps g c = inr (Keeps-refl _)

pub returns-in_default-clause-keeps : goal.returns-in_default-clause-keeps
returns-in_default-clause-keeps g c = inr (Keeps-refl _)

pub returns-in-Ok-write_counts-clause-wrote : goal.returns-in-Ok-write_counts-clause-wrote
returns-in-Ok-write_counts-clause-wrote g c =
    let same : c.deref.result.now ≡ c.in-Ok.batches.items = search rules in
    let counted = subst (λ (batches : List (Batch Global)). AreCountsOf c.args.options.now (flat_map records_in batches) c.in-Ok-measure.measured.0) same c.in-Ok-measure.ensures.counts in
    wrote_counts c.args.options.now _ _ _ (flat_map records_in c.in-Ok.batches.items) c.in-Ok-measure.measured.0 c.in-Ok.ensures.read counted c.in-Ok-write_counts.ensures
