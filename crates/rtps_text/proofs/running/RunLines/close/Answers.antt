use Rattle.rtps_records.proofs.Faults.{at_fault}
use Rattle.rtps_records.proofs.Progress.{closes, closes_if, closes_without}
use Rattle.rtps_run.proofs.Answered.{on_ok_then}
use Rattle.rtps_text.proofs.running.RunLines.close.Goals as goal

pub returns-in_err-finish-clause-fault : goal.returns-in_err-finish-clause-fault
returns-in_err-finish-clause-fault g c = at_fault _ _ _ c.from_residual.ensures.1 (closes_without _ _ _ _)

pub returns-clause-ok : goal.returns-clause-ok
returns-clause-ok g c =
    on_ok_then c.close.result (closes _ _ _ _ _ _ c.in_ok-finish.ensures.ok) c.close.ensures.ok

pub returns-clause-fault : goal.returns-clause-fault
returns-clause-fault g c =
    closes_if _ _ _ _ _ _ c.close.result c.in_ok-finish.ensures.ok c.close.ensures.fault c.close.ensures.front
