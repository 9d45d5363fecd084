use Rattle.rtps_run.proofs.Answered.{on_ok}
use Rattle.rtps_text.proofs.Batches.{moved_front}
use Rattle.rtps_text.proofs.Run.{on_err}
use Rattle.rtps_text.proofs.Turns.{of_memory}
use Rattle.rtps_text.proofs.pipeline.ReadAhead.write_and_read.Goals as goal

pub returns-clause-ok : goal.returns-clause-ok
returns-clause-ok g c = on_ok c.read.result c.in_ok-print_text.ensures.ok

pub returns-clause-front : goal.returns-clause-front
returns-clause-front g c = on_err c.read.result (moved_front _ _ _ _ c.in_ok-print_text.ensures.ok)

pub returns-clause-fault : goal.returns-clause-fault
returns-clause-fault g c = of_memory c.read.result c.read.ensures.fault
