use Rattle.rtps_reader.proofs.Following.{run_in_order}
use Rattle.rtps_reader.proofs.laws.matches_in_order.Goals as goal

pub returns : goal.returns
returns c = λ own entity is_reliable fixed doings. run_in_order own entity is_reliable fixed doings
