use Rattle.std.proofs.Common.{arith}
use Rattle.std.proofs.lemmas.Grind.{common_steps}
use Rattle.rtps_cdr.proofs.Related.{unsigned_reads}
use Rattle.rtps_cdr.proofs.reader.CdrReader.read_u16.Goals as goal

pub returns-clause-reads : goal.returns-clause-reads
returns-clause-reads c = unsigned_reads 2 _ _ _ (omega arith) (grind (arith, common_steps)) (grind (arith, common_steps))
