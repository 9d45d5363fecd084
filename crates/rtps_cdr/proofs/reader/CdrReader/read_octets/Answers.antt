use Rattle.std.proofs.Common.{arith}
use Rattle.std.proofs.lemmas.Grind.{common_steps}
use Rattle.rtps_cdr.proofs.Related.{octets_reads, seen_value, seen_moved}
use Rattle.rtps_cdr.proofs.reader.CdrReader.read_octets.Goals as goal

pub returns-clause-reads : goal.returns-clause-reads
returns-clause-reads c = octets_reads c.args.count _ _ _ (grind (arith, common_steps)) (grind (arith, common_steps, seen_value)) (grind (arith, common_steps, seen_moved))
