use Rattle.rtps_records.proofs.Faults.{at_fault}
use Rattle.rtps_records.proofs.Progress.{stops_at_once}
use Rattle.rtps_text.proofs.Sampled.{late}
use Rattle.rtps_text.proofs.sampling.samples.Goals as goal

pub returns-in_err-new-clause-fault : goal.returns-in_err-new-clause-fault
returns-in_err-new-clause-fault g c = at_fault _ _ _ c.from_residual.ensures.1 (late _ _ _ _ _ _ (stops_at_once _ _ _ _))
