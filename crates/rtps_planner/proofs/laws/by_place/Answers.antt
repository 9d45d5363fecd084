use Rattle.rtps_run.proofs.Heads.{batch_rises}
use Rattle.rtps_run.specs.Input.{occurrences_from}
use Rattle.rtps_planner.proofs.Merged.{by_places}
use Rattle.rtps_planner.proofs.Spoken.{by_spoken}
use Rattle.rtps_planner.proofs.laws.by_place.Goals as goal

pub returns-clause-batch : goal.returns-clause-batch
returns-clause-batch g c = λ decoding w own index inputs is steady. by_places decoding w (occurrences_from own index inputs) (batch_rises own index inputs is) steady

pub returns-clause-rising : goal.returns-clause-rising
returns-clause-rising g c = λ decoding w os up steady. by_places decoding w os up steady

pub returns-clause-spoken : goal.returns-clause-spoken
returns-clause-spoken g c = λ decoding w os up steady. by_spoken decoding w os up steady
