use Rattle.rtps_records.proofs.SomeReading.{some_reading}
use Rattle.rtps_records.proofs.laws.some_reading.Goals as goal

pub returns : goal.returns
returns c = some_reading
