use Rattle.rtps_listen.proofs.Passed.{explain_prints, explain_refuses}
use Rattle.rtps_listen.proofs.files.explain_file.Goals as goal

pub returns-clause-refused : goal.returns-clause-refused
returns-clause-refused g c = rw c.passed.ensures (explain_refuses c.args.options.now c.explain_file.result c.explain_file.ensures.refused)

pub returns-clause-prints : goal.returns-clause-prints
returns-clause-prints g c = rw c.passed.ensures (explain_prints c.args.options.now _ _ _ c.explain_file.result c.explain_file.ensures.prints)
