use Rattle.rtps_cdr.proofs.Structs.{members_joined, members_parted}
use Rattle.rtps_cdr.proofs.laws.a_struct_is_its_members.Goals as goal

pub returns : goal.returns
returns c = record { joined = members_joined; parted = members_parted }
