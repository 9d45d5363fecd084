use Rattle.rtps_cdr.proofs.Sequences.{items_joined, items_parted, items_written}
use Rattle.rtps_cdr.proofs.laws.a_sequence_is_its_items.Goals as goal

pub returns : goal.returns
returns c = record { joined = items_joined; parted = items_parted; written = items_written }
