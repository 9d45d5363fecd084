use Rattle.rtps_wire.proofs.OneReading.{each_has_one}
use Rattle.rtps_wire.proofs.laws.one_datagram_one_reading.Goals as goal

pub returns : goal.returns
returns c = λ octets. each_has_one octets
