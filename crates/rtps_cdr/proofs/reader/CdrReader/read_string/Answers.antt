use Rattle.std.proofs.Common.{arith}
use Rattle.std.proofs.lemmas.Grind.{common_steps}
use Rattle.rtps_cdr.proofs.Counted.{text_reads}
use Rattle.rtps_cdr.proofs.Related.{seen_value, seen_moved}
use Rattle.rtps_cdr.proofs.reader.CdrReader.read_string.Goals as goal

pub returns-clause-reads : goal.returns-clause-reads
returns-clause-reads c = text_reads _ _ _ (grind (arith, common_steps)) (grind (arith, common_steps, seen_value)) (grind (arith, common_steps, seen_moved))
