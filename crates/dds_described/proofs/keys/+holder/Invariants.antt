use Rattle.std.proofs.Common.{◌≡◌, ◌+◌, ◌*◌, drop}
use Rattle.dds_xcdr.specs.Types.{fields_in, types_of}
use Rattle.dds_described.specs.Copying.{fields_copied}
use Rattle.dds_described.specs.Key.{kept_fields}
use Rattle.dds_described.proofs.keys.+holder.Given as goal

abbrev pub decreases-copy_holder : goal.decreases-copy_holder
decreases-copy_holder l = 3 * l.of.0 + 2

abbrev pub decreases-copy_holder_members : goal.decreases-copy_holder_members
decreases-copy_holder_members l = 3 * l.of.0 + 1

abbrev pub decreases-copy_holder_member : goal.decreases-copy_holder_member
decreases-copy_holder_member l = 3 * l.of.0 + 3

abbrev pub invariant-copy_holder_members-members : goal.invariant-copy_holder_members-members
invariant-copy_holder_members-members l =
    fields_copied l.version
    (kept_fields l.keyed (fields_in (types_of l.types) (drop l.member-index l.members))) l.copier
    ≡ fields_copied l.version (kept_fields l.keyed (fields_in (types_of l.types) l.members))
    l.initial.copier
