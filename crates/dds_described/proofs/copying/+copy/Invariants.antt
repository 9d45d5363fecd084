use Rattle.std.proofs.Common.{◌≡◌, ◌+◌, ◌-◌, ◌*◌, drop}
use Rattle.dds_xcdr.specs.Types.{fields_in, type_in, types_of}
use Rattle.dds_described.specs.Copying.{fields_copied, items_copied}
use Rattle.dds_described.proofs.copying.+copy.Given as goal

abbrev pub decreases-copy : goal.decreases-copy
decreases-copy l = 4 * l.of.0 + 3

abbrev pub decreases-copy_array : goal.decreases-copy_array
decreases-copy_array l = 4 * l.item.0 + 6

abbrev pub decreases-copy_counted : goal.decreases-copy_counted
decreases-copy_counted l = 4 * l.item.0 + 5

abbrev pub decreases-copy_items : goal.decreases-copy_items
decreases-copy_items l = 4 * l.item.0 + 4

abbrev pub decreases-copy_members : goal.decreases-copy_members
decreases-copy_members l = 4 * l.of.0 + 2

abbrev pub decreases-copy_sequence : goal.decreases-copy_sequence
decreases-copy_sequence l = 4 * l.item.0 + 6

abbrev pub invariant-copy_items-items : goal.invariant-copy_items-items
invariant-copy_items-items l =
    items_copied l.version (type_in (types_of l.types) l.item) (l.count - l._i) l.copier
    ≡ items_copied l.version (type_in (types_of l.types) l.item) l.count l.initial.copier

abbrev pub invariant-copy_members-members : goal.invariant-copy_members-members
invariant-copy_members-members l =
    fields_copied l.version (fields_in (types_of l.types) (drop l.member-index l.members)) l.copier
    ≡ fields_copied l.version (fields_in (types_of l.types) l.members) l.initial.copier
