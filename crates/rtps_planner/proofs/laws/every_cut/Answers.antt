use Rattle.rtps_planner.proofs.Cuts.{cuts}
use Rattle.rtps_planner.proofs.laws.every_cut.Goals as goal

pub returns : goal.returns
returns g c = λ decoding. cuts decoding
