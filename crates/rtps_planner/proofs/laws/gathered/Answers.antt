use Rattle.rtps_planner.proofs.Adding.{adds}
use Rattle.rtps_planner.proofs.Judged.{right}
use Rattle.rtps_planner.specs.Outputs.{ranks_of}
use Rattle.rtps_planner.proofs.laws.gathered.Goals as goal

pub returns : goal.returns
returns g c = λ view decoding w es os plan kept outputs outcome up steady planned fine of has.
    adds view decoding w es os up steady plan kept outputs outcome planned (right plan.rest.ranks.items (ranks_of outputs) fine) of has
