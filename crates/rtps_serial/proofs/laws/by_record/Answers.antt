use Rattle.rtps_serial.proofs.ByRecord.{occurrence_alike, run_alike}
use Rattle.rtps_serial.proofs.laws.by_record.Goals as goal

pub returns-clause-occurrence : goal.returns-clause-occurrence
returns-clause-occurrence g c = λ decoding w o. occurrence_alike decoding w o

pub returns-clause-run : goal.returns-clause-run
returns-clause-run g c = λ decoding config inputs. run_alike decoding config inputs
