use Rattle.rtps_planner.proofs.Passing.{adds_up, coming_counts_nothing, going_counts_nothing, tick_counts_nothing}
use Rattle.rtps_planner.proofs.laws.counted_apart.Goals as goal

pub returns-clause-parts : goal.returns-clause-parts
returns-clause-parts c = adds_up

pub returns-clause-tick : goal.returns-clause-tick
returns-clause-tick c = tick_counts_nothing

pub returns-clause-comes : goal.returns-clause-comes
returns-clause-comes c = coming_counts_nothing

pub returns-clause-goes : goal.returns-clause-goes
returns-clause-goes c = going_counts_nothing
