use Rattle.rtps_records.proofs.SomeReading.{others_have_none}
use Rattle.rtps_records.proofs.laws.others_have_none.Goals as goal

pub returns : goal.returns
returns c = others_have_none
