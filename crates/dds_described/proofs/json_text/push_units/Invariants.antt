use Rattle.std.proofs.Common.{◌≡◌, ◌++◌, drop}
use Rattle.std.specs.Io.{StartsWith}
use Rattle.std.specs.List.{flat_map}
use Rattle.dds_described.specs.JsonText.{unit_escaped}
use Rattle.dds_described.proofs.json_text.push_units.Given as goal

abbrev pub invariant-units : goal.invariant-units
invariant-units g l = record {
  put : l.out.items ++ flat_map unit_escaped (drop l.unit-index l.units)
      ≡ l.fn.out.items ++ flat_map unit_escaped l.units;
  keeps : StartsWith l.out.items l.fn.out.items;
}
