use Rattle.std.proofs.Common.{◌≡◌, ◌+◌, ◌*◌, drop}
use Rattle.dds_xcdr.specs.Types.{fields_in, types_of}
use Rattle.dds_described.specs.Copying.{key_fields_copied}
use Rattle.dds_described.proofs.keys.+key.Given as goal

abbrev pub decreases-copy_key : goal.decreases-copy_key
decreases-copy_key l = 3 * l.of.0 + 2

abbrev pub decreases-copy_key_members : goal.decreases-copy_key_members
decreases-copy_key_members l = 3 * l.of.0 + 1

abbrev pub decreases-copy_key_member : goal.decreases-copy_key_member
decreases-copy_key_member l = 3 * l.of.0 + 3

abbrev pub invariant-copy_key_members-members : goal.invariant-copy_key_members-members
invariant-copy_key_members-members l =
    key_fields_copied l.version l.keyed
    (fields_in (types_of l.types) (drop l.member-index l.members)) l.copier
    ≡ key_fields_copied l.version l.keyed (fields_in (types_of l.types) l.members)
    l.initial.copier
