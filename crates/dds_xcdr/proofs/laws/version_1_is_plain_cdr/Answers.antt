use Rattle.dds_xcdr.proofs.Plain.{plain_is_cdr}
use Rattle.dds_xcdr.proofs.laws.version_1_is_plain_cdr.Goals as goal

pub returns : goal.returns
returns c = plain_is_cdr
