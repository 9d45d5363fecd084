use Rattle.std.proofs.Common.{sym}
use Rattle.rtps_records.proofs.Faults.{at_fault}
use Rattle.rtps_records.proofs.Progress.{stops_at_once}
use Rattle.rtps_text.proofs.replaying.replay.Goals as goal

pub returns-in_err-new-clause-fault : goal.returns-in_err-new-clause-fault
returns-in_err-new-clause-fault g c = at_fault _ _ _ c.from_residual.ensures.1 (stops_at_once _ _ _ _)

pub print_file-requires-clause-own : goal.print_file-requires-clause-own
print_file-requires-clause-own g c κs within = sym c.in_ok-new.ensures.same.0
