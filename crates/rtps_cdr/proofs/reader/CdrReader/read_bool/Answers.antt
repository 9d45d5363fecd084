use Rattle.std.proofs.Common.{arith}
use Rattle.std.proofs.lemmas.Grind.{common_steps}
use Rattle.rtps_cdr.proofs.Related.{bool_reads}
use Rattle.rtps_cdr.proofs.reader.CdrReader.read_bool.Goals as goal

pub returns-clause-reads : goal.returns-clause-reads
returns-clause-reads c = bool_reads _ _ _ (grind (arith, common_steps)) (grind (arith, common_steps))
