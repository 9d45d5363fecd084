use Rattle.rtps_serial.proofs.Agreeing.{agrees_run, run_agrees}
use Rattle.rtps_serial.proofs.laws.matches_agree.Goals as goal

pub returns-clause-run : goal.returns-clause-run
returns-clause-run g c = λ decoding config inputs. run_agrees decoding config inputs

pub returns-clause-later : goal.returns-clause-later
returns-clause-later g c = λ decoding w os agrees. agrees_run decoding w os agrees
