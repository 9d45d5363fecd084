use Rattle.std.proofs.Common.{◌≡◌, ◌≤◌, ◌+◌, drop}
use Rattle.dds_idl.specs.Place.{column_from}
use Rattle.dds_idl.proofs.error.column_of.Given as goal

abbrev pub invariant-loop-octet : goal.invariant-loop-octet
invariant-loop-octet l = record {
  so_far : column_from l.column (drop l.octet-index l.before) ≡ column_from 1 l.before;
  bounded : l.column ≤ l.octet-index + 1;
}
