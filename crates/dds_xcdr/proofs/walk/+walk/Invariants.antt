use Rattle.std.proofs.Common.{◌+◌, ◌-◌, ◌*◌, drop}
use Rattle.dds_xcdr.specs.Spans.{AreItems}
use Rattle.dds_xcdr.specs.Types.{type_in, types_of}
use Rattle.dds_xcdr.proofs.Items.{IsLeft, Members}
use Rattle.dds_xcdr.proofs.walk.+walk.Given as goal

abbrev pub decreases-skip : goal.decreases-skip
decreases-skip l = 4 * l.of.0 + 3

abbrev pub decreases-skip_array : goal.decreases-skip_array
decreases-skip_array l = 4 * l.item.0 + 6

abbrev pub decreases-skip_counted : goal.decreases-skip_counted
decreases-skip_counted l = 4 * l.item.0 + 5

abbrev pub decreases-skip_items : goal.decreases-skip_items
decreases-skip_items l = 4 * l.item.0 + 4

abbrev pub decreases-skip_members : goal.decreases-skip_members
decreases-skip_members l = 4 * l.of.0 + 2

abbrev pub decreases-skip_sequence : goal.decreases-skip_sequence
decreases-skip_sequence l = 4 * l.item.0 + 6

abbrev pub invariant-skip_items-items : goal.invariant-skip_items-items
invariant-skip_items-items l =
    IsLeft (AreItems l.version (type_in (types_of l.types) l.item) (l.count - l._i)
    l.initial.reader.endian)
    (AreItems l.version (type_in (types_of l.types) l.item) l.count l.initial.reader.endian)
    l.reader l.initial.reader

abbrev pub invariant-skip_members-members : goal.invariant-skip_members-members
invariant-skip_members-members l =
    IsLeft (Members l.version (types_of l.types) (drop l.member-index l.members)
    l.initial.reader.endian)
    (Members l.version (types_of l.types) l.members l.initial.reader.endian) l.reader
    l.initial.reader
