use Rattle.rtps_cdr.proofs.Again.{reads_again, each_again}
use Rattle.rtps_cdr.proofs.laws.what_is_written_is_read_again.Goals as goal

pub returns : goal.returns
returns c = record { any = reads_again; each = each_again }
