use Rattle.rtps_serial.proofs.Presenting.{run_presents, run_presents_none}
use Rattle.rtps_serial.proofs.Lasting.{run_lasts}
use Rattle.rtps_serial.proofs.laws.presented.Goals as goal

pub returns-clause-matched : goal.returns-clause-matched
returns-clause-matched g c = λ decoding config inputs rank writer asks. run_presents decoding config inputs rank writer asks

pub returns-clause-unmatched : goal.returns-clause-unmatched
returns-clause-unmatched g c = λ decoding config inputs rank writer. run_presents_none decoding config inputs rank writer

pub returns-clause-fixed : goal.returns-clause-fixed
returns-clause-fixed g c = λ decoding config inputs rank writer fixed. run_lasts decoding config inputs rank writer fixed
