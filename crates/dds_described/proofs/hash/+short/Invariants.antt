use Rattle.std.proofs.Common.{◌≡◌, ◌≤◌, ◌+◌, ◌-◌, ◌*◌, drop}
use Rattle.dds_xcdr.specs.Types.{fields_in, type_in, types_of}
use Rattle.dds_described.specs.Hash.{end_of_all, short_end, short_fields}
use Rattle.dds_described.specs.Part.{fields_of}
use Rattle.dds_described.proofs.hash.+short.Given as goal

abbrev pub decreases-short_end : goal.decreases-short_end
decreases-short_end l = 3 * l.of.0 + 2

abbrev pub decreases-short_items : goal.decreases-short_items
decreases-short_items l = 3 * l.item.0 + 3

abbrev pub decreases-short_members : goal.decreases-short_members
decreases-short_members l = 3 * l.of.0 + 1

abbrev pub decreases-short_sequence : goal.decreases-short_sequence
decreases-short_sequence l = 3 * l.item.0 + 4

abbrev pub invariant-short_items-items : goal.invariant-short_items-items
invariant-short_items-items l =
    (end_of_all (λ p. short_end (type_in (types_of l.types) l.item) p) (l.count - l._i) l.end
    ≡ end_of_all (λ p. short_end (type_in (types_of l.types) l.item) p) l.count l.at)
    × (l.end ≤ 16)

abbrev pub invariant-short_members-members : goal.invariant-short_members-members
invariant-short_members-members l =
    (short_fields
    (fields_of l.part l.keyed (fields_in (types_of l.types) (drop l.member-index l.members))) l.end
    ≡ short_fields (fields_of l.part l.keyed (fields_in (types_of l.types) l.members)) l.at)
    × (l.end ≤ 16)
