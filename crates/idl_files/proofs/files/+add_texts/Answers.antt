use Rattle.std.proofs.Common.{arith}
use Rattle.idl_files.proofs.Places.{some_part}
use Rattle.idl_files.proofs.files.+add_texts.Goals as goal

pub returns-then-most-eq0-clause-cause : goal.returns-then-most-eq0-clause-cause
returns-then-most-eq0-clause-cause g t c = omega (arith, c.if-most-eq0.true, some_part c.args.names.now)
