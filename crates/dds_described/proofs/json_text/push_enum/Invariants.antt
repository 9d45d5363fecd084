use Rattle.std.proofs.Common.{◌≡◌, drop}
use Rattle.dds_xcdr.specs.Types.{values_of}
use Rattle.dds_described.specs.JsonText.{enum_text}
use Rattle.dds_described.proofs.json_text.push_enum.Given as goal

abbrev pub invariant-cases : goal.invariant-cases
invariant-cases g l = record {
  left : enum_text (values_of (drop l.case-index l.cases)) l.value
      ≡ enum_text (values_of l.cases) l.value;
  same : l.out.items ≡ l.fn.out.items;
}
