use Rattle.rtps_records.proofs.Faults.{at_fault}
use Rattle.rtps_records.proofs.Progress.{stops_at_once}
use Rattle.rtps_text.proofs.Due.{lines_begun}
use Rattle.rtps_text.proofs.Sinks.{lines_left, lines_wrote}
use Rattle.rtps_text.proofs.replaying.print_file.Goals as goal

pub returns-in_err-pipeline-clause-fault : goal.returns-in_err-pipeline-clause-fault
returns-in_err-pipeline-clause-fault g c = at_fault _ _ _ c.from_residual.ensures.1 (stops_at_once _ _ _ _)

pub run_file-requires-clause-begun : goal.run_file-requires-clause-begun
run_file-requires-clause-begun g c κs within =
    lines_begun g.C.Catalog.text_of g.C.Catalog.view g.C.Catalog.decoding c.args.run c.new-printer.result c.in_ok-pipeline.pipeline.ahead.text.items c.args.catalog.now
    c.new-printer.ensures c.requires.own c.requires.alone c.requires.nothing c.requires.fresh c.in_ok-pipeline.ensures.none

pub returns-clause-ok : goal.returns-clause-ok
returns-clause-ok g c = lines_wrote g.C.Catalog.text_of g.C.Catalog.decoding c.args.run c.new-printer.result _ _ _ c.run_file.result c.run_file.ensures.ok

pub returns-clause-fault : goal.returns-clause-fault
returns-clause-fault g c = lines_left g.C.Catalog.text_of g.C.Catalog.decoding c.args.run c.new-printer.result _ _ _ _ c.run_file.result c.run_file.ensures.fault
