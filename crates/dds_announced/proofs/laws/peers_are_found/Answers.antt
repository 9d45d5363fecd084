use Rattle.dds_announced.proofs.Found as proved
use Rattle.dds_announced.proofs.laws.peers_are_found.Goals as goal

pub returns : goal.returns
returns g c = proved.peers_are_found g.C.Catalog.decoding
