use Rattle.rtps_bench.proofs.Written.{options_fault}
use Rattle.rtps_bench.proofs.program.run_once.Goals as goal

pub returns-in-Err-clause-fault : goal.returns-in-Err-clause-fault
returns-in-Err-clause-fault g c = options_fault c.args.options.now _ c.in-Err.ensures.cause

pub returns-clause-counts : goal.returns-clause-counts
returns-clause-counts g c = (c.in-Ok.config, c.in-Ok.ensures.config, c.in-Ok-run_all.ensures)
