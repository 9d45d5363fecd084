use Rattle.dds_announced.proofs.Together as proved
use Rattle.dds_announced.proofs.laws.stay_together.Goals as goal

pub returns : goal.returns
returns g c = proved.stay_together _ g.C.Catalog.decoding
