use Rattle.std.proofs.Common.{◌≡◌, ◌≤◌, max, drop}
use Rattle.dds_xcdr.specs.Types.{fields_in, types_of}
use Rattle.dds_xcdr.specs.Xtype.{deepest}
use Rattle.dds_xcdr.proofs.types.Types.deepest.Given as goal

abbrev pub invariant-members : goal.invariant-members
invariant-members l = record {
  whole : max l.most (deepest (fields_in (types_of l.self)
      (drop l.member-index l.members))) ≡ deepest (fields_in (types_of l.self) l.members);
  bounded : l.most ≤ 32;
}
