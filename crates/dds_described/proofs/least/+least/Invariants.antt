use Rattle.std.proofs.Common.{◌≡◌, ◌+◌, ◌-◌, ◌*◌, drop}
use Rattle.dds_xcdr.specs.Types.{fields_in, type_in, types_of}
use Rattle.dds_described.proofs.Leasts.{leasts_put, members_put}
use Rattle.dds_described.proofs.least.+least.Given as goal

abbrev pub decreases-write_least : goal.decreases-write_least
decreases-write_least l = 3 * l.of.0 + 2

abbrev pub decreases-write_items : goal.decreases-write_items
decreases-write_items l = 3 * l.item.0 + 3

abbrev pub decreases-write_members : goal.decreases-write_members
decreases-write_members l = 3 * l.of.0 + 1

abbrev pub invariant-write_items-items : goal.invariant-write_items-items
invariant-write_items-items l =
    leasts_put (type_in (types_of l.types) l.item) (l.count - l._i) l.writer
    ≡ leasts_put (type_in (types_of l.types) l.item) l.count l.initial.writer

abbrev pub invariant-write_members-members : goal.invariant-write_members-members
invariant-write_members-members l =
    members_put (fields_in (types_of l.types) (drop l.member-index l.members)) l.writer
    ≡ members_put (fields_in (types_of l.types) l.members) l.initial.writer
