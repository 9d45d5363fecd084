use Rattle.rtps_cdr.specs.Cdr.{Text}
use Rattle.rtps_cdr.specs.Reading.{seen}
use Rattle.dds_described.proofs.Sources.{still_read}
use Rattle.dds_described.proofs.source.Source.read_text.Goals as goal

pub invariant_of-self-2 : goal.invariant_of-self-2
invariant_of-self-2 c =
    still_read c.self.inside.endian Text c.self.inside.reader c.read_string.new.self
    (seen c.read_string.result) c.read_string.ensures.reads c.self.invariant
