use Rattle.std.proofs.Common.{◌≡◌, drop, map}
use Rattle.std.specs.List.{list_any}
use Rattle.std.specs.Str.{bytes_eq}
use Rattle.std.specs.String.{string_bytes}
use Rattle.dds_qos.proofs.compatible.is_in.Given as goal

abbrev pub invariant-loop-other : goal.invariant-loop-other
invariant-loop-other g l =
    list_any (bytes_eq l.name) (map string_bytes (drop l.other-index l.names)) ≡ list_any (bytes_eq l.name) (map string_bytes l.names)
