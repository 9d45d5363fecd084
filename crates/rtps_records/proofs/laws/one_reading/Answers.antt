use Rattle.rtps_records.proofs.OneReading.{one_reading}
use Rattle.rtps_records.proofs.laws.one_reading.Goals as goal

pub returns : goal.returns
returns c = one_reading
