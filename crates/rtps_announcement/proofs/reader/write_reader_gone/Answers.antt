use Rattle.rtps_announcement.specs.Reader.{reader_gone_octets}
use Rattle.rtps_announcement.proofs.reader.write_reader_gone.Goals as goal

pub returns : goal.returns
unfolding reader_gone_octets
returns g c = rw c.change_of.ensures at c.write_end.ensures
