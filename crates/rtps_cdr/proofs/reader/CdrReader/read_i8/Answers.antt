use Rattle.std.proofs.Common.{arith}
use Rattle.std.proofs.lemmas.Grind.{common_steps}
use Rattle.std.specs.Int.{w8}
use Rattle.rtps_cdr.proofs.Related.{signed_reads}
use Rattle.rtps_cdr.proofs.reader.CdrReader.read_i8.Goals as goal

pub returns-in-Ok-clause-reads : goal.returns-in-Ok-clause-reads
returns-in-Ok-clause-reads c = signed_reads w8 _ _ _ (omega arith) (grind (arith, common_steps)) (grind (arith, common_steps))

pub returns-in-Err-clause-reads : goal.returns-in-Err-clause-reads
returns-in-Err-clause-reads c = signed_reads w8 _ _ _ (omega arith) (grind (arith, common_steps)) (grind (arith, common_steps))
