use Rattle.rtps_listen.proofs.Passed.{dump_prints, dump_refuses}
use Rattle.rtps_listen.proofs.files.dump_file.Goals as goal

pub returns-clause-refused : goal.returns-clause-refused
returns-clause-refused g c = rw c.passed.ensures (dump_refuses c.args.options.now c.dump_file.result c.dump_file.ensures.refused)

pub returns-clause-prints : goal.returns-clause-prints
returns-clause-prints g c = rw c.passed.ensures (dump_prints c.args.options.now _ _ _ c.dump_file.result c.dump_file.ensures.prints)
