use Rattle.rtps_listen.proofs.Appeared.{stray_refused}
use Rattle.rtps_listen.proofs.program.perform.Goals as goal

pub returns-in-Stray : goal.returns-in-Stray
returns-in-Stray g c = rw c.in-Stray.is (stray_refused c.in-Stray.field-0 _ _ _ _)
