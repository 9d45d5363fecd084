use Rattle.std.proofs.Common.{◌≡◌, List, drop}
use Rattle.dds_xcdr.specs.Types.{fields_in}
use Rattle.dds_xcdr.specs.Xtype.{Xtype}
use Rattle.dds_described.specs.Key.{has_key}
use Rattle.dds_described.proofs.keys.has_key.Given as goal

abbrev pub invariant-members : goal.invariant-members
invariant-members l =
    (types : List Xtype) → has_key (fields_in types (drop l.member-index l.members))
    ≡ has_key (fields_in types l.members)
