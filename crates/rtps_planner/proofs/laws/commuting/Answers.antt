use Rattle.rtps_planner.proofs.Alone.{discovered, parts}
use Rattle.rtps_planner.proofs.laws.commuting.Goals as goal

pub returns-clause-readers : goal.returns-clause-readers
returns-clause-readers g c = λ decoding w os rank. parts decoding w os rank

pub returns-clause-discovery : goal.returns-clause-discovery
returns-clause-discovery g c = λ decoding w os. discovered decoding w os
