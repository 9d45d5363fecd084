use Rattle.rtps_run.specs.Run.{run}
use Rattle.rtps_run.specs.Seen.{reader_count}
use Rattle.rtps_serial.proofs.Listing.{below_listed, below_sorted}
use Rattle.rtps_serial.proofs.laws.matches_listed.Goals as goal

pub returns-clause-ordered : goal.returns-clause-ordered
returns-clause-ordered g c = λ decoding config inputs. let w = run decoding config inputs in below_sorted w.readers (reader_count w)

pub returns-clause-matched : goal.returns-clause-matched
returns-clause-matched g c = λ decoding config inputs rank writer. let w = run decoding config inputs in below_listed w.readers (reader_count w) rank writer
