use Rattle.rtps_records.proofs.Faults.{at_fault}
use Rattle.rtps_records.proofs.Progress.{stops_at_once}
use Rattle.rtps_text.proofs.Sampled.{late}
use Rattle.rtps_text.proofs.Sinks.{caches_begun, caches_left, caches_wrote}
use Rattle.rtps_text.proofs.sampling.keep_file.Goals as goal

pub returns-in_err-pipeline-clause-fault : goal.returns-in_err-pipeline-clause-fault
returns-in_err-pipeline-clause-fault g c = at_fault _ _ _ c.from_residual.ensures.1 (late _ _ _ _ _ _ (stops_at_once _ _ _ _))

pub run_file-requires-clause-begun : goal.run_file-requires-clause-begun
run_file-requires-clause-begun g c κs within =
    caches_begun g.C.Catalog.text_of g.C.Catalog.view g.C.Catalog.decoding c.args.kept c.in_ok-pipeline.pipeline.ahead.text.items c.requires.fresh c.requires.alone

pub returns-clause-ok : goal.returns-clause-ok
returns-clause-ok g c = caches_wrote g.C.Catalog.text_of g.C.Catalog.decoding c.args.kept _ _ _ c.run_file.result c.run_file.ensures.ok

pub returns-clause-fault : goal.returns-clause-fault
returns-clause-fault g c = caches_left g.C.Catalog.text_of g.C.Catalog.decoding c.args.kept _ _ _ _ c.run_file.result c.run_file.ensures.fault
