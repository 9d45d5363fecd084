use Rattle.std.proofs.Common.{inr}
use Rattle.rtps_listen.specs.Program.{Leaves}
use Rattle.rtps_listen.proofs.program.run.Goals as goal

pub returns-in-Ok-perform : goal.returns-in-Ok-perform
unfolding Leaves
returns-in-Ok-perform g c = (c.in-Ok.request, c.in-Ok.ensures.asks, c.in-Ok-perform.ensures)

pub returns-in-Err-perform : goal.returns-in-Err-perform
unfolding Leaves
returns-in-Err-perform g c = inr (c.in-Ok.request, c.in-Ok.ensures.asks, c.in-Err-perform.ensures)
